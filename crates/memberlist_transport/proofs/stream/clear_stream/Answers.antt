use Rattle.std.proofs.Common.{refl, rules}
use Rattle.std.specs.Prelude.{◌≢◌}
use Rattle.memberlist_wrap.specs.declared.fault.WrapFault.TheVariants.{Memory}
use Rattle.memberlist_transport.specs.Stream.{ReasonForClear as plainly}
use Rattle.memberlist_transport.proofs.Streams.{clear_refused}
use Rattle.memberlist_transport.proofs.stream.clear_stream.Goals as goal

pub returns-in-Ok-clause-err : goal.returns-in-Ok-clause-err
returns-in-Ok-clause-err c =
    clear_refused c.args.limit c.args.bytes.now c.in-Ok.message.items c.stream_of.result c.in-Ok.ensures.unwraps c.stream_of.ensures.err

pub returns-in-Err-clause-err : goal.returns-in-Err-clause-err
returns-in-Err-clause-err c = λ seen.
    let other : c.in-Err.cause ≢ Memory = search rules in
    plainly.broken c.in-Err.cause (c.in-Err.ensures.reason other) refl
