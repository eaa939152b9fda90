use Rattle.std.proofs.Common.{◌≡◌, ◌≤◌, ◌<◌, ◌+◌, ◌-◌, ◌^◌, arith, subst}
use Rattle.memberlist_member.proofs.Logarithms.{above, at_least_five, next}
use Rattle.memberlist_member.proofs.scale.push_pull_scale.Goals as goal

pub overflow_sub-result : goal.overflow_sub-result
overflow_sub-result c =
    let five = at_least_five (c.args.members - 1) c.ilog2.result (omega (arith, c.if-members-le32.false)) c.ilog2.ensures.next_power_gt in
    omega (arith, five)

pub returns-else-members-le32 : goal.returns-else-members-le32
returns-else-members-le32 c =
    let m = c.args.members - 1 in
    let w = c.ilog2.result in
    let base : 2 ≤ 2 = omega arith in
    let five = at_least_five m w (omega (arith, c.if-members-le32.false)) c.ilog2.ensures.next_power_gt in
    let less = next 2 m w base c.ilog2.ensures.power_le c.ilog2.ensures.next_power_gt in
    let same : w + 1 ≡ w - 3 + 4 = omega (arith, five) in
    let reached : m < 2 ^ (w - 3 + 4) = subst (λ e. m < 2 ^ e) same less in (
      (omega (arith, five), omega (arith, reached)),
      λ k all.
          let under : m < 2 ^ (k + 4) = omega (arith, all.1, c.if-members-le32.false) in
          let most = above 2 m w base c.ilog2.ensures.power_le c.ilog2.ensures.next_power_gt (k + 4) under in
          omega (arith, most),
    )
