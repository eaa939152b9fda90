-- `into_keys` gives the box that the handle holds.
use Rattle.std.proofs.Common.{inl, refl}
use base.Logic.{emp}
use contract.Monad.{fact_i}
use Rattle.swim_c.proofs.Contents.{some_keys, of_keys}
use Rattle.swim_c.proofs.Handles.Taken.{into_meets}
use Rattle.swim_c.specs.contracts.keyring.KeyringHandle.into_keys as f
use Rattle.swim_c.proofs.keyring.KeyringHandle.into_keys.Statement.{statement}
use Rattle.swim_c.proofs.keyring.KeyringHandle.into_keys.Code as code

pub into_keys_spec : {M : Type 1} → statement M
unfolding code.code
into_keys_spec 𝓤 𝓛 𝓜 𝓡 wired =
    into_meets some_keys 𝓤 𝓛 𝓜 𝓡 of_keys (f.clauses 𝓛 𝓜.mem 𝓡.returns) f.Key.name (code.unfolded 𝓤 𝓛.H 𝓜 𝓡 wired) wired.2
    (λ h a g. inl (h.keys, refl, λ d is. fact_i 𝓤 _ (emp 𝓤) is, λ is. fact_i 𝓤 _ (emp 𝓤) is))
