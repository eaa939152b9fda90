-- `none` makes an empty handle.
use Rattle.std.proofs.Common.{false, None, refl}
use base.Logic.{emp}
use contract.Monad.{fact_i}
use denote.RawPtr.{null_ptr}
use Rattle.swim_c.proofs.Contents.{of_agent}
use Rattle.swim_c.proofs.Handles.None.{none_meets}
use Rattle.swim_c.specs.contracts.agent.handle.AgentHandle.none as f
use Rattle.swim_c.proofs.agent.handle.AgentHandle.none.Statement.{statement}
use Rattle.swim_c.proofs.agent.handle.AgentHandle.none.Code as code

pub none_spec : {M : Type 1} → statement M
none_spec 𝓤 𝓛 𝓜 𝓡 wired =
    none_meets 𝓤 𝓛 𝓜 𝓡 of_agent (f.clauses 𝓛 𝓜.mem 𝓡.returns) f.Key.name (code.unfolded 𝓤 𝓛.H 𝓜 𝓡 wired)
    (record { at = null_ptr; held = false; agent = None }) (λ vs. refl) (λ g. fact_i 𝓤 _ (emp 𝓤) refl)
