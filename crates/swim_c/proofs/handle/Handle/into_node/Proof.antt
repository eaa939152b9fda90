-- `into_node` gives the box that the handle holds.
use Rattle.std.proofs.Common.{Bool, true, Option, Some, None, inl, inr, refl, sym, ap}
use Rattle.std.proofs.lemmas.Option.{cond_some, none-some}
use base.Logic.{emp}
use contract.Monad.{fact_i}
use contract.Running.{Running}
use denote.RawPtr.{Ptr}
use prog.Model.{Model}
use seplogic.Ra.Ura.{Ura}
use types.Logic.{Logic}
use Rattle.std.specs.declared.alloc.Global.{Global}
use Rattle.swim_table.specs.Node.{NodeValue}
use Rattle.swim_table.specs.Table.{Entries}
use Rattle.swim_c.proofs.Contents.{a_node, of_node}
use Rattle.swim_c.proofs.Handles.Taken.{Taken, into_meets}
use Rattle.swim_c.specs.contracts.handle.Handle.into_node as f
use Rattle.swim_c.proofs.handle.Handle.into_node.Statement.{statement}
use Rattle.swim_c.proofs.handle.Handle.into_node.Code as code

taken : {M : Type 1} (𝓤 : Ura M) (𝓛 : Logic 𝓤) (𝓜 : Model 𝓤 𝓛.H) (𝓡 : Running 𝓤 𝓛.H 𝓜) (p : Ptr) (y : Bool)
    (n : Option NodeValue) (m : Option Entries) (a : Global)
    → Taken a_node 𝓤 𝓛 𝓜 𝓡 of_node (f.clauses 𝓛 𝓜.mem 𝓡.returns) (record { at = p; held = y; node = n; changes = m }) a tt
taken 𝓤 𝓛 𝓜 𝓡 p y (Some n) m a =
    inl (
      Some (record { node = n; changes = m }),
      refl,
      λ d is. let same = (cond_some true _ _ is).1
          in fact_i 𝓤 _ (emp 𝓤) (ap (λ w. Some w.node) same, ap (λ w. w.changes) same),
      λ is. absurd (none-some _ (sym is)),
    )
taken 𝓤 𝓛 𝓜 𝓡 p y None None a = inl (None, refl, λ d is. absurd (none-some _ is), λ is. fact_i 𝓤 _ (emp 𝓤) (refl, refl))
taken 𝓤 𝓛 𝓜 𝓡 p y None (Some names) a = inr refl

pub into_node_spec : {M : Type 1} → statement M
unfolding code.code
into_node_spec 𝓤 𝓛 𝓜 𝓡 wired =
    into_meets a_node 𝓤 𝓛 𝓜 𝓡 of_node (f.clauses 𝓛 𝓜.mem 𝓡.returns) f.Key.name (code.unfolded 𝓤 𝓛.H 𝓜 𝓡 wired) wired.2
    (λ h a g. taken 𝓤 𝓛 𝓜 𝓡 h.at h.held h.node h.changes a)
