use Rattle.std.proofs.Common.{rules}
use Rattle.std.specs.Prelude.{◌≢◌}
use Rattle.memberlist_transport.specs.declared.fault.StreamFault.TheVariants as fault
use Rattle.swimwatch.proofs.asked.answer.stream_in.Goals as goal

pub returns-in_ok-words_of-in-Err-NoStream-eq13-clause-none :
    goal.returns-in_ok-words_of-in-Err-NoStream-eq13-clause-none
returns-in_ok-words_of-in-Err-NoStream-eq13-clause-none c = λ cause few stream is.
    let other : c.in-Err-NoStream-eq13.field-0 ≢ fault.Memory = search rules in
    (rw c.deref.ensures.value at c.in-Err-NoStream-eq13.ensures.refuses other) stream is

pub returns-in-Err-clause-none : goal.returns-in-Err-clause-none
returns-in-Err-clause-none c = λ cause few stream is.
    let other : c.in-Err.fault ≢ fault.Memory = search rules in
    (rw c.deref.ensures.value at c.in-Err.ensures.refuses other) stream is
