-- `into_kept` gives the box that the handle holds.
use Rattle.std.proofs.Common.{inl, refl}
use base.Logic.{emp}
use contract.Monad.{fact_i}
use Rattle.swim_c.proofs.Contents.{a_kept, of_kept}
use Rattle.swim_c.proofs.Handles.Taken.{into_meets}
use Rattle.swim_c.specs.contracts.kept_handle.KeptHandle.into_kept as f
use Rattle.swim_c.proofs.kept_handle.KeptHandle.into_kept.Statement.{statement}
use Rattle.swim_c.proofs.kept_handle.KeptHandle.into_kept.Code as code

pub into_kept_spec : {M : Type 1} → statement M
unfolding code.code
into_kept_spec 𝓤 𝓛 𝓜 𝓡 wired =
    into_meets a_kept 𝓤 𝓛 𝓜 𝓡 of_kept (f.clauses 𝓛 𝓜.mem 𝓡.returns) f.Key.name (code.unfolded 𝓤 𝓛.H 𝓜 𝓡 wired) wired.2
    (λ h a g. inl (h.kept, refl, λ d is. fact_i 𝓤 _ (emp 𝓤) is, λ is. fact_i 𝓤 _ (emp 𝓤) is))
