use Rattle.std.proofs.Common.{◌≤◌, arith}
use Rattle.memberlist_member.proofs.Logarithms.{above, next}
use Rattle.memberlist_member.proofs.scale.digits.Goals as goal

pub returns-else-n-eq0-clause-least : goal.returns-else-n-eq0-clause-least
returns-else-n-eq0-clause-least c =
    let log = c.ilog10 in
    let base : 2 ≤ 10 = omega arith in (
      next 10 c.args.n log.result base log.ensures.power_le log.ensures.next_power_gt,
      above 10 c.args.n log.result base log.ensures.power_le log.ensures.next_power_gt,
    )
