use Rattle.std.proofs.Common.{◌≤◌, ◌<◌, ◌/◌, ◌*◌, ◌^◌, arith, mul-le-mul_right}
use Rattle.memberlist_member.proofs.Suspecting.{most_bound}
use Rattle.memberlist_member.proofs.suspicion.Suspicion.begun.Goals as goal
use Rattle.memberlist_member.proofs.suspicion.Suspicion.begun.Goals.{then-members-wanted, else-members-wanted}

bounded : (c : goal.After-from) → c.from.result * (c.suspicion_timeout-min.result / 1000) < 2 ^ 54
bounded c =
    let (r, log, few, is) = c.suspicion_timeout-min.ensures in
    most_bound c.args.members r c.args.mult c.args.interval c.suspicion_timeout-min.result c.from.result c.ranges.members.fits
    c.requires.mult c.ranges.interval.fits (let fits : c.from.result < 2 ^ 16 = omega arith in fits) log is

pub overflow_mul-result : goal.overflow_mul-result
overflow_mul-result c = omega (arith, bounded c)

pub invariant_of-result : goal.invariant_of-result
invariant_of-result c =
    let once : 1 ≤ c.from.result = omega arith in
    let more = mul-le-mul_right (c.suspicion_timeout-min.result / 1000) once in (
      elim c.if-members-wanted.branch [ then-members-wanted w ↦ omega arith | else-members-wanted w ↦ omega arith ],
      omega (arith, more),
      bounded c,
    )
