-- How a suspicion begins.
use Rattle.std.specs.Prelude.{◌≡◌, ℕ, ◌*◌, ◌/◌, ◌<◌, ◌≤◌, max}
use Rattle.memberlist_member.specs.Scales.{IsMilliLog}
use Rattle.memberlist_member.specs.Suspicions.{Span, confirmations_wanted}
use Rattle.memberlist_member.specs.declared.config.Config.{Config}

-- a suspicion that began with this configuration, in a cluster of some number of members
pub record IsBegun (config : Config) (span : Span) : Type 0 where
  pub members : ℕ
  pub thousandths : ℕ
  pub digits : IsMilliLog (max 1 members) thousandths
  pub few : thousandths < 10000
  pub wanted : span.wanted ≡ confirmations_wanted config.suspicion_mult members
  pub least : span.least ≡ config.suspicion_mult * max 1000 thousandths * config.probe_interval / 1000
  pub most : span.most ≡ config.suspicion_max_timeout_mult * span.least
  pub ordered : span.least ≤ span.most
