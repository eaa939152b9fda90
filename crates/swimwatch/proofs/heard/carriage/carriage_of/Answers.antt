use Rattle.std.proofs.Common.{◌≢◌, inl, rules}
use Rattle.memberlist_transport.specs.declared.fault.PacketFault.{PacketFault}
use Rattle.swimwatch.proofs.heard.carriage.carriage_of.Goals as goal

pub returns-in-Err-NoKeyFits : goal.returns-in-Err-NoKeyFits
returns-in-Err-NoKeyFits c =
    let other : c.in-Err-NoKeyFits.field-0 ≢ PacketFault.Memory = search rules in
    inl (c.in-Err-NoKeyFits.ensures.refuses other)

pub returns-in-Err-Unencrypted : goal.returns-in-Err-Unencrypted
returns-in-Err-Unencrypted c =
    let other : c.in-Err-Unencrypted.field-0 ≢ PacketFault.Memory = search rules in
    inl (c.in-Err-Unencrypted.ensures.refuses other)

pub returns-in-Err : goal.returns-in-Err
returns-in-Err c =
    let other : c.in-Err.field-0 ≢ PacketFault.Memory = search rules in
    inl (c.in-Err.ensures.refuses other)
