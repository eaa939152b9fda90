use Rattle.std.proofs.Common.{◌≡◌, ◌*◌, max, ap₂, rules, subst}
use Rattle.memberlist_member.specs.Scales.{IsMilliLog}
use Rattle.memberlist_member.proofs.scale.suspicion_timeout.Goals as goal

pub returns : goal.returns
returns c =
    let members : c.max.result ≡ max 1 c.args.members = search rules in
    let scale : c.from-2.result ≡ max 1000 c.milli_log.result = search rules in (
      c.milli_log.result,
      subst (λ n. IsMilliLog n c.milli_log.result) members c.milli_log.ensures.is,
      c.milli_log.ensures.bound,
      ap₂ (λ a b. a * b) (ap₂ (λ a b. a * b) c.from.ensures scale) c.from-3.ensures,
    )
