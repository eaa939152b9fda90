use Rattle.std.proofs.Common.{rules}
use Rattle.std.specs.Prelude.{◌≢◌}
use Rattle.memberlist_wrap.specs.declared.fault.WrapFault.TheVariants.{Memory}
use Rattle.memberlist_transport.proofs.unwrapped_stream.unwrapped.Goals as goal

pub returns-in-Err : goal.returns-in-Err
returns-in-Err c =
    let other : c.in-Err.cause ≢ Memory = search rules in
    record { ok = tt; err = λ seen. c.in-Err.ensures.limits other }
