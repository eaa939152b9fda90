-- The rules by which captures tell why a prober had no answer in time: each removes what cannot be.
use Rattle.std.specs.Prelude.{ℕ, ◌-◌, ◌/◌, max, Bool, true, false, not, ◌&&◌, ◌||◌, nat_lt, nat_le, is_some, Option, Some, None, unwrap_or}
use Rattle.memberlist_probes.specs.declared.explanation.Explanation.{Explanation}
use Rattle.memberlist_probes.specs.declared.explanation.Explanation.TheVariants as explanation
use Rattle.memberlist_probes.specs.declared.leg.Leg.{Leg}
use Rattle.memberlist_probes.specs.declared.leg.Passage.{Passage}
use Rattle.memberlist_probes.specs.declared.leg.Refusal.{Refusal}
use Rattle.memberlist_probes.specs.declared.leg.Refusal.TheVariants as refusal

-- ---- what is known of the times

abbrev pub time_between : Option ℕ → Option ℕ → Option ℕ
time_between None ack = None
time_between (Some ping) None = None
time_between (Some ping) (Some ack) = Some (ack - ping)

-- from the ping to the ack, where both were seen
abbrev pub elapsed : Passage → Option ℕ
elapsed passage = time_between passage.ping passage.ack

-- the first that is known
abbrev pub or_else : Option ℕ → Option ℕ → Option ℕ
or_else (Some first) second = Some first
or_else None second = second

-- The target took no more than passed between the ping and the ack on their way, and the prober
-- waited no less.
abbrev pub own_least : Leg → ℕ
own_least leg = unwrap_or (elapsed leg.at_target) 0

abbrev pub own_most : Leg → Option ℕ
own_most leg = or_else (elapsed leg.at_target) (or_else (elapsed leg.between) (elapsed leg.at_prober))

abbrev pub whole_least : Leg → ℕ
whole_least leg =
    unwrap_or (or_else (elapsed leg.at_prober) (or_else (elapsed leg.between) (elapsed leg.at_target))) 0

abbrev pub whole_most : Leg → Option ℕ
whole_most leg = elapsed leg.at_prober

-- ---- what may be

-- an ack was seen somewhere
abbrev pub is_answered : Leg → Bool
is_answered leg = is_some leg.at_prober.ack || (is_some leg.at_target.ack || is_some leg.between.ack)

-- it was seen there, or may have been missed
abbrev pub may_pass : Option ℕ → Bool → Bool
may_pass seen is_complete = is_some seen || not is_complete

-- the ack was sent
abbrev pub may_answer : Leg → Bool
may_answer leg = may_pass leg.at_target.ack leg.is_target_complete

-- the ack came to the prober
abbrev pub may_return : Leg → Bool
may_return leg = may_answer leg && may_pass leg.at_prober.ack leg.is_prober_complete

-- a time may be longer than this, if it is at most so long
abbrev pub may_exceed : Option ℕ → ℕ → Bool
may_exceed None limit = true
may_exceed (Some most) limit = nat_lt limit most

-- a time may be at most this, if it is at most so long, and longer than the timeout
abbrev pub may_be_twice : Option ℕ → ℕ → ℕ → Bool
may_be_twice None timeout own = true
may_be_twice (Some most) timeout own = nat_lt timeout most && nat_le own (most / 2)

-- no refusal was seen
abbrev pub may_be_unrefused : Leg → Explanation → Bool
may_be_unrefused leg explanation.PingLost = not (is_some leg.at_target.ping) && not (is_answered leg)
may_be_unrefused leg explanation.Refused = false
may_be_unrefused leg explanation.Silent =
    may_pass leg.at_target.ping leg.is_target_complete && not (is_answered leg)
may_be_unrefused leg explanation.AnswerLate =
    may_return leg
    && (may_exceed (whole_most leg) leg.timeout
    && may_exceed (own_most leg) (max (whole_least leg) leg.timeout / 2))
may_be_unrefused leg explanation.WaySlow =
    may_return leg && may_be_twice (whole_most leg) leg.timeout (own_least leg)
may_be_unrefused leg explanation.AnswerLost = may_answer leg && not (is_some leg.at_prober.ack)
may_be_unrefused leg explanation.Unread = may_return leg && nat_le (whole_least leg) leg.timeout

abbrev pub is_refused : Explanation → Bool
is_refused explanation.PingLost = false
is_refused explanation.Refused = true
is_refused explanation.Silent = false
is_refused explanation.AnswerLate = false
is_refused explanation.WaySlow = false
is_refused explanation.AnswerLost = false
is_refused explanation.Unread = false

-- what was seen leaves this explanation
abbrev pub may_be_by : Refusal → Leg → Explanation → Bool
may_be_by refusal.Seen leg told = is_refused told
may_be_by refusal.Unknown leg told =
    (is_refused told && not (is_answered leg)) || may_be_unrefused leg told
may_be_by refusal.Absent leg told = may_be_unrefused leg told

abbrev pub may_be : Leg → Explanation → Bool
may_be leg told = may_be_by leg.refusal leg told
