-- `of` makes a handle that holds the box.
use Rattle.std.proofs.Common.{true, Some, refl}
use base.Logic.{emp}
use contract.Monad.{fact_i}
use Rattle.swim_c.proofs.Contents.{an_agent, of_agent}
use Rattle.swim_c.proofs.Handles.Of.{of_meets}
use Rattle.swim_c.specs.contracts.agent.handle.AgentHandle.of as f
use Rattle.swim_c.proofs.agent.handle.AgentHandle.of.Statement.{statement}
use Rattle.swim_c.proofs.agent.handle.AgentHandle.of.Code as code

pub of_spec : {M : Type 1} → statement M
unfolding code.code
of_spec 𝓤 𝓛 𝓜 𝓡 wired =
    of_meets an_agent 𝓤 𝓛 𝓜 𝓡 of_agent (f.clauses 𝓛 𝓜.mem 𝓡.returns) f.Key.name (code.unfolded 𝓤 𝓛.H 𝓜 𝓡 wired) wired.2
    (λ d p. record { at = p; held = true; agent = Some d.value }) (λ d p vs. refl) (λ d p g. fact_i 𝓤 _ (emp 𝓤) refl)
