use Rattle.std.proofs.Common.{ap}
use Rattle.memberlist_message.specs.Messages.{message_value}
use Rattle.memberlist_member.specs.Showing.HasGround.{is_told}
use Rattle.memberlist_member.proofs.member.Member.take_message.Goals as goal

pub returns-in-Claim-clause-goes : goal.returns-in-Claim-clause-goes
returns-in-Claim-clause-goes g c told tells first word before =
    c.hear.ensures.goes told (is_told (tells c.in-Claim.packet (ap message_value c.in-Claim.is))) first word before
