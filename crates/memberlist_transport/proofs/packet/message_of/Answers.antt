use Rattle.std.proofs.Common.{◌≡◌, None, refl, rules}
use Rattle.std.specs.Prelude.{◌≢◌}
use Rattle.swim_wire.specs.declared.fault.WireFault.TheVariants.{Memory}
use Rattle.memberlist_transport.specs.Message.{claiming_of}
use Rattle.memberlist_transport.proofs.packet.message_of.Goals as goal

pub returns-in-Err-clause-reason : goal.returns-in-Err-clause-reason
returns-in-Err-clause-reason c = λ seen.
    let other : c.in-Err.field-0 ≢ Memory = search rules in
    let begins = c.in-Some.ensures.cases.0 in
    let none : claiming_of c.args.bytes.now ≡ None = search rules in
    (c.in-Some.first.now, refl, ((c.in-Some.field-0-1.now, begins), none, c.in-Err.ensures.refuses other))
