-- Calls on an agent's handle, by what the handle had.
use Rattle.std.proofs.Common.{◌≡◌, Option, Some, sym, subst}
use Rattle.swim_c.specs.declared.agent.held.HeldAgent.{HeldAgent}
use Rattle.swim_c.specs.Agents.{OnAgent}

pub on_agent : (old new : Option HeldAgent) (Without : Type 0) (Does : HeldAgent → HeldAgent → Type 0)
    (before after : HeldAgent) → old ≡ Some before → new ≡ Some after → Does before after → OnAgent old new Without Does
on_agent old new Without Does before after was is does =
    subst (λ (o : Option HeldAgent). OnAgent o new Without Does) (sym was)
    (subst (λ (n : Option HeldAgent). OnAgent (Some before) n Without Does) (sym is) does)
