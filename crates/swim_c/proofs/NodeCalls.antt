-- Calls on a handle, by what the handle had.
use Rattle.std.proofs.Common.{◌≡◌, ◌∙◌, ℕ, Option, Some, None, sym, subst}
use Rattle.std.specs.Prelude.{MatchOption}
use Rattle.swim_table.specs.Node.{NodeValue}
use Rattle.swim_table.specs.Table.{Entries}
use Rattle.swim_c.specs.OnNode.{OnNode, OnSame}
use Rattle.swim_c.specs.Watching.{Noted}

pub no_node : (old new : Option NodeValue) (Without : Type 0) (Does : NodeValue → NodeValue → Type 0)
    → old ≡ None → new ≡ None → Without → OnNode old new Without Does
no_node old new Without Does was is answered =
    subst (λ (o : Option NodeValue). OnNode o new Without Does) (sym was)
    (subst (λ (n : Option NodeValue). OnNode None n Without Does) (sym is) answered)

pub on_node : (old new : Option NodeValue) (Without : Type 0) (Does : NodeValue → NodeValue → Type 0) (before after : NodeValue)
    → old ≡ Some before → new ≡ Some after → Does before after → OnNode old new Without Does
on_node old new Without Does before after was is does =
    subst (λ (o : Option NodeValue). OnNode o new Without Does) (sym was)
    (subst (λ (n : Option NodeValue). OnNode (Some before) n Without Does) (sym is) does)

pub on_same : (old new : Option NodeValue) (Without : Type 0) (Tells : NodeValue → Type 0) (held : NodeValue)
    → old ≡ Some held → new ≡ Some held → Tells held
    → OnSame old new Without Tells
on_same old new Without Tells held was is told = record {
  same = is ∙ sym was;
  tells = subst (λ (o : Option NodeValue). MatchOption o Without Tells) (sym was) told;
}

-- a call on a node noted names in the handle
pub on_noted : (old new : Option NodeValue) (changes changed held left : Option Entries) (status : ℕ) (before after : NodeValue)
    → old ≡ Some before → new ≡ Some after → changes ≡ held → changed ≡ left → Noted held left status before after
    → OnNode old new (changed ≡ changes) (Noted changes changed status)
on_noted old new changes changed held left status before after was is had has noted =
    on_node old new (changed ≡ changes) (Noted changes changed status) before after was is
    (subst (λ (o : Option Entries). Noted o changed status before after) (sym had)
    (subst (λ (o : Option Entries). Noted held o status before after) (sym has) noted))
