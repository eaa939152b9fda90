use Rattle.std.proofs.Common.{◌*◌, ◌≤◌, ap₂, arith}
use Rattle.memberlist_member.proofs.Logarithms.{in_decade, lacked, not_all, reached, some}
use Rattle.memberlist_member.proofs.Thousandths.{POWERS_rise}
use Rattle.memberlist_member.proofs.scale.milli_log.Goals as goal

pub overflow_add-scaled : goal.overflow_add-scaled
overflow_add-scaled c =
    let log = c.ilog10-whole in
    let small : log.result ≤ 10 = omega (arith, log.ensures.bound) in
    let is = ap₂ (λ a b. a * b) c.from.ensures c.pow.ensures in
    let sized = (in_decade c.args.n log.result (c.from.result * c.pow.result) small log.ensures.power_le log.ensures.next_power_gt is).1 in
    omega (arith, sized)

pub count_below-place-requires : goal.count_below-place-requires
count_below-place-requires c = POWERS_rise

pub overflow_sub-result : goal.overflow_sub-result
overflow_sub-result c =
    let log = c.ilog10-whole in
    let small : log.result ≤ 10 = omega (arith, log.ensures.bound) in
    let is = ap₂ (λ a b. a * b) c.from.ensures c.pow.ensures in
    let e = c.count_below-place.ensures in
    let one = some c.args.n log.result (c.from.result * c.pow.result) c.count_below-place.result small log.ensures.power_le
    log.ensures.next_power_gt is e.bound e.low e.high in
    omega (arith, one)

pub returns-clause-is : goal.returns-clause-is
returns-clause-is c =
    let log = c.ilog10-whole in
    let small : log.result ≤ 10 = omega (arith, log.ensures.bound) in
    let is = ap₂ (λ a b. a * b) c.from.ensures c.pow.ensures in
    let e = c.count_below-place.ensures in (
      reached c.args.n log.result (c.from.result * c.pow.result) c.count_below-place.result small log.ensures.power_le
          log.ensures.next_power_gt is e.bound e.low e.high,
      lacked c.args.n log.result (c.from.result * c.pow.result) c.count_below-place.result small log.ensures.power_le
          log.ensures.next_power_gt is e.bound e.low e.high,
    )

pub returns-clause-bound : goal.returns-clause-bound
returns-clause-bound c =
    let log = c.ilog10-whole in
    let small : log.result ≤ 10 = omega (arith, log.ensures.bound) in
    let is = ap₂ (λ a b. a * b) c.from.ensures c.pow.ensures in
    let e = c.count_below-place.ensures in
    let most = not_all c.args.n log.result (c.from.result * c.pow.result) c.count_below-place.result small log.ensures.power_le
    log.ensures.next_power_gt is e.bound e.low e.high in
    omega (arith, most, log.ensures.bound)
