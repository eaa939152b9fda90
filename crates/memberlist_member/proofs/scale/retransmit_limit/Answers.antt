use Rattle.std.proofs.Common.{◌*◌, ap}
use Rattle.memberlist_member.proofs.scale.retransmit_limit.Goals as goal

pub returns : goal.returns
returns c = (c.digits.result, c.digits.ensures.least, ap (λ m. m * c.digits.result) c.from.ensures)
