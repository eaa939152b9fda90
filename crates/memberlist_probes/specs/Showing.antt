-- What captures show of a probe, where they were taken.
use Rattle.std.specs.Prelude.{◌≡◌, ◌≢◌, ℕ, ◌+◌, ◌≤◌, Bool, true, false, Option, Some, None, IsSome, IfSome, ⊤}
use Rattle.memberlist_probes.specs.declared.leg.Leg.{Leg}
use Rattle.memberlist_probes.specs.declared.leg.Refusal.{Refusal}
use Rattle.memberlist_probes.specs.declared.leg.Refusal.TheVariants as refusal
use Rattle.memberlist_probes.specs.Worlds.{World, when, ping_sent, ping_arrived, refused, ack_sent, ack_arrived}

-- At a host whose clock is ahead by so much, a step is seen when it happens. Captures that are
-- complete miss none.
pub data Sees (is_complete : Bool) (ahead : ℕ) (happened seen : Option ℕ) : Type 0 where
  seen : (time : ℕ) → happened ≡ Some time → seen ≡ Some (time + ahead)
      → Sees is_complete ahead happened seen
  missed : is_complete ≡ false → seen ≡ None → Sees is_complete ahead happened seen
  absent : happened ≡ None → seen ≡ None → Sees is_complete ahead happened seen

-- Between two hosts, by a clock that is ahead by so much, a packet may be seen on its way: after it
-- was sent, and before it arrived if it did.
pub data Passes (ahead : ℕ) (sent arrived seen : Option ℕ) : Type 0 where
  passed : (start time : ℕ) → sent ≡ Some start → start ≤ time
      → IfSome arrived (λ end. time ≤ end) → seen ≡ Some (time + ahead)
      → Passes ahead sent arrived seen
  missed : seen ≡ None → Passes ahead sent arrived seen

-- A refusal that was seen happened, and one that would have been seen did not.
abbrev pub Refuses : Option ℕ → Refusal → Type 0
Refuses happened refusal.Seen = IsSome happened
Refuses happened refusal.Unknown = ⊤
Refuses happened refusal.Absent = happened ≡ None

-- by how much the clocks at the prober, at the target and between them are ahead
pub record Clocks : Type 0 where
  pub prober : ℕ
  pub target : ℕ
  pub between : ℕ

-- the captures, by these clocks, show so much of what happened
pub record Shows (clocks : Clocks) (world : World) (leg : Leg) : Type 0 where
  pub ping_at_prober : Sees leg.is_prober_complete clocks.prober (when ping_sent world)
      leg.at_prober.ping
  pub ack_at_prober : Sees leg.is_prober_complete clocks.prober (when ack_arrived world)
      leg.at_prober.ack
  pub ping_at_target : Sees leg.is_target_complete clocks.target (when ping_arrived world)
      leg.at_target.ping
  pub ack_at_target : Sees leg.is_target_complete clocks.target (when ack_sent world)
      leg.at_target.ack
  pub ping_between : Passes clocks.between (when ping_sent world) (when ping_arrived world)
      leg.between.ping
  pub ack_between : Passes clocks.between (when ack_sent world) (when ack_arrived world)
      leg.between.ack
  pub refusal : Refuses (when refused world) leg.refusal

-- captures at both ends miss nothing
pub record IsComplete (leg : Leg) : Type 0 where
  pub prober : leg.is_prober_complete ≡ true
  pub target : leg.is_target_complete ≡ true
  pub refusal : leg.refusal ≢ refusal.Unknown
