-- `into_agent` gives the box that the handle holds.
use Rattle.std.proofs.Common.{inl, refl}
use base.Logic.{emp}
use contract.Monad.{fact_i}
use Rattle.swim_c.proofs.Contents.{an_agent, of_agent}
use Rattle.swim_c.proofs.Handles.Taken.{into_meets}
use Rattle.swim_c.specs.contracts.agent.handle.AgentHandle.into_agent as f
use Rattle.swim_c.proofs.agent.handle.AgentHandle.into_agent.Statement.{statement}
use Rattle.swim_c.proofs.agent.handle.AgentHandle.into_agent.Code as code

pub into_agent_spec : {M : Type 1} → statement M
unfolding code.code
into_agent_spec 𝓤 𝓛 𝓜 𝓡 wired =
    into_meets an_agent 𝓤 𝓛 𝓜 𝓡 of_agent (f.clauses 𝓛 𝓜.mem 𝓡.returns) f.Key.name (code.unfolded 𝓤 𝓛.H 𝓜 𝓡 wired) wired.2
    (λ h a g. inl (h.agent, refl, λ d is. fact_i 𝓤 _ (emp 𝓤) is, λ is. fact_i 𝓤 _ (emp 𝓤) is))
