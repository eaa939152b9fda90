use Rattle.std.proofs.Common.{refl, rules}
use Rattle.std.specs.Prelude.{◌≢◌}
use Rattle.memberlist_wrap.specs.declared.fault.WrapFault.TheVariants.{Memory}
use Rattle.memberlist_transport.specs.Stream.{ReasonFor as why, ReasonForClear as plainly}
use Rattle.memberlist_transport.proofs.stream.stream_in.Goals as goal

pub returns-in-Err-clause-reason : goal.returns-in-Err-clause-reason
returns-in-Err-clause-reason c = λ seen.
    let other : c.in-Err.cause ≢ Memory = search rules in
    why.clear (plainly.broken c.in-Err.cause (c.in-Err.ensures.reason other) refl)
    (λ sealed. absurd (c.in-Err.ensures.limits other sealed.0 sealed.1))
