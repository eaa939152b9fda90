use Rattle.std.proofs.Common.{rules}
use Rattle.std.specs.Prelude.{◌≢◌}
use Rattle.memberlist_wrap.specs.declared.fault.WrapFault.TheVariants.{Memory}
use Rattle.memberlist_transport.proofs.unwrapped.unwrapped.Goals as goal

pub returns-in-Err-clause-err : goal.returns-in-Err-clause-err
returns-in-Err-clause-err c = λ seen.
    let other : c.in-Err.fault ≢ Memory = search rules in
    c.in-Err.ensures.limits other
