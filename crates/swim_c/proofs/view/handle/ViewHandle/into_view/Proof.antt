-- `into_view` gives the box that the handle holds.
use Rattle.std.proofs.Common.{inl, refl}
use base.Logic.{emp}
use contract.Monad.{fact_i}
use Rattle.swim_c.proofs.Contents.{a_view, of_view}
use Rattle.swim_c.proofs.Handles.Taken.{into_meets}
use Rattle.swim_c.specs.contracts.view.handle.ViewHandle.into_view as f
use Rattle.swim_c.proofs.view.handle.ViewHandle.into_view.Statement.{statement}
use Rattle.swim_c.proofs.view.handle.ViewHandle.into_view.Code as code

pub into_view_spec : {M : Type 1} → statement M
unfolding code.code
into_view_spec 𝓤 𝓛 𝓜 𝓡 wired =
    into_meets a_view 𝓤 𝓛 𝓜 𝓡 of_view (f.clauses 𝓛 𝓜.mem 𝓡.returns) f.Key.name (code.unfolded 𝓤 𝓛.H 𝓜 𝓡 wired) wired.2
    (λ h a g. inl (h.view, refl, λ d is. fact_i 𝓤 _ (emp 𝓤) is, λ is. fact_i 𝓤 _ (emp 𝓤) is))
