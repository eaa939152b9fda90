-- Captures that miss nothing show what happened.
use Rattle.std.proofs.Common.{◌≡◌, ℕ, ◌+◌, ◌-◌, ◌≤◌, Bool, true, false, Option, Some, None, IsSome, IfSome, List, []}
use Rattle.std.proofs.Common.{◌∷◌, All, Contains, slice_get, refl, sym, ap, ◌∙◌, subst, arith}
use Rattle.std.specs.declared.net.ip_addr.IpAddr.{IpAddr}
use Rattle.memberlist_probes.specs.declared.captures.Capture.{Capture}
use Rattle.memberlist_probes.specs.declared.captures.Sighting.{Sighting}
use Rattle.memberlist_probes.specs.declared.leg.Leg.{Leg}
use Rattle.memberlist_probes.specs.declared.leg.Passage.{Passage}
use Rattle.memberlist_probes.specs.Captured.{IsAt, WasNotSeen, IsSeenAt, Covers, IsPassage, IsPassage as passage, Keeps, IsOnItsWay}
use Rattle.memberlist_probes.specs.Complete.{AreComplete}
use Rattle.memberlist_probes.specs.Points.{host_of}
use Rattle.memberlist_probes.specs.Showing.{Sees, Sees as sees, Passes, Passes as passes, Refuses, Clocks, Shows}
use Rattle.memberlist_probes.specs.Worlds.{World, when, ping_sent, ping_arrived, refused, ack_sent, ack_arrived, IsAfter}
use Rattle.memberlist_probes.proofs.Happening.{Follows, follows}

all_at : {X : Type 0} (P : X → Type 0) (xs : List X) (x : X) → All P xs → Contains xs x → P x
all_at P xs x all (k, less, is) = subst P is (all k x less)

-- ---- at one host

-- a capture at the host runs when the packet passes, if it does
abbrev RunsThen : List Capture → (ℕ → ℕ) → IpAddr → Option ℕ → Type 0
RunsThen captures ahead host passed = IfSome passed (λ time.
    (number : ℕ) × (capture : Capture) × (slice_get captures number ≡ Some capture) × (host_of capture.point ≡ Some host)
    × (capture.begin ≤ time + ahead number) × (time + ahead number ≤ capture.end))

never : (captures : List Capture) (ahead : ℕ
    → ℕ) (host : IpAddr) (passed : Option ℕ) (sightings : List Sighting)
    → Keeps captures ahead host passed sightings → WasNotSeen captures host sightings
    → RunsThen captures ahead host passed → passed ≡ None
never captures ahead host None sightings keeps not_seen runs = refl
never captures ahead host (Some time) sightings keeps not_seen (number, capture, is, at, after, before) =
    let (seen, inside, same) = keeps.all number capture time is at refl after before in
    absurd (all_at (λ s. IsAt captures s.capture host → ⊥) sightings seen not_seen inside
    (subst (λ n. IsAt captures n host) (sym same) (capture, is, at)))

pub sees_by : (captures : List Capture) (ahead : ℕ
    → ℕ) (host : IpAddr) (passed : Option ℕ) (sightings : List Sighting) (clock : ℕ) (c : Bool)
    (time : Option ℕ) → Keeps captures ahead host passed sightings
    → ((number : ℕ) → IsAt captures number host → ahead number ≡ clock)
    → IsSeenAt captures host sightings time → (c ≡ true → RunsThen captures ahead host passed)
    → Sees c clock passed time
sees_by captures ahead host passed sightings clock c (Some x) keeps clocks (seen, inside, at, is) runs =
    let (time, happened, shown) = all_at
    (λ s. IsAt captures s.capture host
    → (time : ℕ) × (passed ≡ Some time)
    × (s.time ≡ time + ahead s.capture)) sightings seen keeps.right inside at in
    sees.seen time happened (ap Some (sym is ∙ (shown ∙ ap (λ n. time + n) (clocks seen.capture at))))
sees_by captures ahead host passed sightings clock false None keeps clocks not_seen runs = sees.missed refl refl
sees_by captures ahead host passed sightings clock true None keeps clocks not_seen runs =
    sees.absent (never captures ahead host passed sightings keeps not_seen (runs refl)) refl

-- ---- between the hosts

passes_by : (ahead : ℕ → ℕ) (sent arrived : Option ℕ) (sightings : List Sighting) (seen : Sighting)
    (time : Option ℕ) → IsOnItsWay ahead sent arrived sightings → Contains sightings seen
    → time ≡ Some seen.time → Passes (ahead seen.capture) sent arrived time
passes_by ahead sent arrived sightings seen time way inside is =
    let (start, passed, at_start, shown, after, before) = all_at (λ s.
    (start passed : ℕ) × (sent ≡ Some start) × (s.time ≡ passed + ahead s.capture) × (start ≤ passed)
    × IfSome arrived (λ end. passed ≤ end)) sightings seen way inside in
    passes.passed start passed at_start after before (is ∙ ap Some shown)

pub record ShowsBetween (world : World) (between : Passage) : Type 0 where
  pub clock : ℕ
  pub ping : Passes clock (when ping_sent world) (when ping_arrived world) between.ping
  pub ack : Passes clock (when ack_sent world) (when ack_arrived world) between.ack

pub between_by : (pings acks : List Sighting) (world : World) (ahead : ℕ → ℕ) (between : Passage)
    → IsOnItsWay ahead (when ping_sent world) (when ping_arrived world) pings
    → IsOnItsWay ahead (when ack_sent world) (when ack_arrived world) acks → IsPassage pings acks between
    → ShowsBetween world between
between_by pings acks world ahead between ping_way ack_way (passage.none no_ping no_ack) =
    record { clock = 0; ping = passes.missed no_ping; ack = passes.missed no_ack }
between_by pings acks world ahead between ping_way ack_way (passage.ack seen inside no_ping at) =
    record {
      clock = ahead seen.capture;
      ping = passes.missed no_ping;
      ack = passes_by ahead (when ack_sent world) (when ack_arrived world) acks seen between.ack ack_way inside at;
    }
between_by pings acks world ahead between ping_way ack_way (passage.both ping seen ping_inside inside same at_ping at) =
    record {
      clock = ahead seen.capture;
      ping = subst (λ n. Passes (ahead n) (when ping_sent world) (when ping_arrived world) between.ping) same
          (passes_by ahead (when ping_sent world) (when ping_arrived world) pings ping between.ping ping_way ping_inside at_ping);
      ack = passes_by ahead (when ack_sent world) (when ack_arrived world) acks seen between.ack ack_way inside at;
    }

-- ---- when captures run for long enough

-- a packet that passes a host from the ping on, and no later than ten seconds after it
abbrev IsTimely : Option ℕ → Option ℕ → Type 0
IsTimely sent passed = IfSome passed (λ time. IfSome sent (λ start. (start ≤ time) × (time ≤ start + 10000000)))

followed : (captures : List Capture) (ahead : ℕ
    → ℕ) (host : IpAddr) (clock : ℕ) (sent passed ping : Option ℕ) (c : Bool)
    → ((number : ℕ) → IsAt captures number host → ahead number ≡ clock) → IsSome sent
    → IsTimely sent passed → Sees c clock sent ping
    → (p : ℕ) × (ping ≡ Some p) × Covers captures host p 10000000 → RunsThen captures ahead host passed
followed captures ahead host clock sent None ping c clocks is_sent timely seen_there covers = tt
followed captures ahead host clock sent (Some time) ping c clocks is_sent timely (sees.missed missed none)
    (p, at, (number, capture, is, (there, before, after))) = absurd (cc (none, at))
followed captures ahead host clock sent (Some time) ping c clocks is_sent timely (sees.absent absent none)
    (p, at, (number, capture, is, (there, before, after))) = absurd (cc (none, at))
followed captures ahead host clock sent (Some time) ping c clocks is_sent timely
    (sees.seen start is_start shown) (p, at, (number, capture, is, (there, before, after))) =
    let bounds = subst (λ o. IfSome o (λ s. (s ≤ time) × (time ≤ s + 10000000))) is_start timely in
    let same = clocks number (capture, is, there) in
    let same_time : p ≡ start + clock = cc (at, shown) in (
      number,
      capture,
      is,
      there,
      omega (arith, before, same_time, same, bounds.0),
      omega (arith, after, same_time, same, bounds.1),
    )

awaited : (captures : List Capture) (ahead : ℕ
    → ℕ) (host : IpAddr) (sent asked passed : Option ℕ) (pings : List Sighting)
    → ((one other : ℕ) → ahead one ≤ ahead other + 1000000) → IsOnItsWay ahead sent asked pings
    → IsTimely sent passed → IfSome passed (λ time. IfSome asked (λ start. start ≤ time) × IsSome asked)
    → (first : Sighting) × (slice_get pings 0 ≡ Some first)
    × Covers captures host (first.time - 1000000) 12000000 → RunsThen captures ahead host passed
awaited captures ahead host sent asked None pings near way timely behind covers = tt
awaited captures ahead host sent None (Some time) pings near way timely behind covers = absurd (cc (behind.1))
awaited captures ahead host sent (Some arrival) (Some time) pings near way timely behind
    (first, is_first, (number, capture, is, (there, before, after))) =
    let (start, passed, at_start, shown, later, earlier) = all_at (λ s.
    (start passed : ℕ) × (sent ≡ Some start) × (s.time ≡ passed + ahead s.capture) × (start ≤ passed)
    × (passed ≤ arrival)) pings first way (first_inside pings first is_first) in
    let bounds = subst (λ o. IfSome o (λ s. (s ≤ time) × (time ≤ s + 10000000))) at_start timely in (
      number,
      capture,
      is,
      there,
      omega (arith, before, shown, earlier, behind.0, near first.capture number),
      omega (arith, after, shown, later, bounds.1, near number first.capture),
    )
  where
    first_inside : (xs : List Sighting) (x : Sighting) → slice_get xs 0 ≡ Some x → Contains xs x
    first_inside [] x at = absurd (cc (at))
    first_inside (y ∷ ys) x at = (0, omega arith, cc (at))

-- ---- when the steps happen

timely_sent : (sent : Option ℕ) → IsTimely sent sent
timely_sent None = tt
timely_sent (Some t) = (omega arith, omega arith)

timely_asked : (sent asked : Option ℕ) → IfSome asked (IsAfter sent)
    → IfSome asked (λ time. IfSome sent (λ start. time ≤ start + 10000000)) → IsTimely sent asked
timely_asked sent None after settled = tt
timely_asked None (Some t) after settled = tt
timely_asked (Some s) (Some t) (s', is, le) settled = (subst (λ n. n ≤ t) (cc (is)) le, settled)

timely_answered : (sent asked answered : Option ℕ) → IfSome asked (IsAfter sent)
    → IfSome answered (IsAfter asked) → IfSome answered
    (λ time. IfSome sent (λ start. time ≤ start + 10000000)) → IsTimely sent answered
timely_answered sent asked None first second settled = tt
timely_answered None asked (Some t) first second settled = tt
timely_answered (Some s) None (Some t) first (a, is, le) settled = absurd (cc (is))
timely_answered (Some s) (Some a) (Some t) (s', is_s, le_s) (a', is_a, le_a) settled =
    let first : s ≤ a = subst (λ n. n ≤ a) (cc (is_s)) le_s in
    let second : a ≤ t = subst (λ n. n ≤ t) (cc (is_a)) le_a in
    (omega (arith, first, second), settled)

timely_returned : (sent asked answered returned : Option ℕ) → IfSome asked (IsAfter sent)
    → IfSome answered (IsAfter asked) → IfSome returned (IsAfter answered)
    → IfSome returned (λ time. IfSome sent (λ start. time ≤ start + 10000000)) → IsTimely sent returned
timely_returned sent asked answered None first second third settled = tt
timely_returned None asked answered (Some t) first second third settled = tt
timely_returned (Some s) asked None (Some t) first second (b, is, le) settled = absurd (cc (is))
timely_returned (Some s) None (Some b) (Some t) first (a, is, le) third settled = absurd (cc (is))
timely_returned (Some s) (Some a) (Some b) (Some t) (s', is_s, le_s) (a', is_a, le_a) (b', is_b, le_b) settled =
    let first : s ≤ a = subst (λ n. n ≤ a) (cc (is_s)) le_s in
    let second : a ≤ b = subst (λ n. n ≤ b) (cc (is_a)) le_a in
    let third : b ≤ t = subst (λ n. n ≤ t) (cc (is_b)) le_b in
    (omega (arith, first, second, third), settled)

behind_itself : (asked : Option ℕ) → IfSome asked (λ time. IfSome asked (λ start. start ≤ time) × IsSome asked)
behind_itself None = tt
behind_itself (Some t) = (omega arith, refl)

behind_asked : (asked answered : Option ℕ) → IfSome answered (IsAfter asked)
    → IfSome answered (λ time. IfSome asked (λ start. start ≤ time) × IsSome asked)
behind_asked asked None after = tt
behind_asked None (Some t) (a, is, le) = absurd (cc (is))
behind_asked (Some a) (Some t) (a', is, le) = (subst (λ n. n ≤ t) (cc (is)) le, refl)

-- ---- what is shown

shows_by : (captures : List Capture) (pings acks : List Sighting) (prober target : IpAddr) (world : World)
    (ahead : ℕ → ℕ) (clocks : Clocks) (leg : Leg)
    → AreComplete captures pings acks prober target world ahead clocks
    → Refuses (when refused world) leg.refusal → IsPassage pings acks leg.between
    → Sees leg.is_prober_complete clocks.prober (when ping_sent world) leg.at_prober.ping
    → Sees leg.is_prober_complete clocks.prober (when ack_arrived world) leg.at_prober.ack
    → Sees leg.is_target_complete clocks.target (when ping_arrived world) leg.at_target.ping
    → Sees leg.is_target_complete clocks.target (when ack_sent world) leg.at_target.ack
    → (between : ℕ) × Shows (record clocks { between = between }) world leg
shows_by captures pings acks prober target world ahead clocks leg complete refuses passage a b c d =
    let between = between_by pings acks world ahead leg.between complete.ping_on_its_way complete.ack_on_its_way passage in (
      between.clock,
      record {
        ping_at_prober = a;
        ack_at_prober = b;
        ping_at_target = c;
        ack_at_target = d;
        ping_between = between.ping;
        ack_between = between.ack;
        refusal = refuses;
      },
    )

-- captures that are said to miss packets show what they have
pub shows_within : (captures : List Capture) (pings acks : List Sighting) (prober target : IpAddr)
    (world : World) (ahead : ℕ → ℕ) (clocks : Clocks) (leg : Leg) → leg.is_prober_complete ≡ false
    → leg.is_target_complete ≡ false → leg.at_prober.ping ≡ None → leg.at_prober.ack ≡ None
    → leg.at_target.ping ≡ None → leg.at_target.ack ≡ None
    → AreComplete captures pings acks prober target world ahead clocks
    → Refuses (when refused world) leg.refusal → IsPassage pings acks leg.between
    → (between : ℕ) × Shows (record clocks { between = between }) world leg
shows_within captures pings acks prober target world ahead clocks leg not_prober not_target a b c d complete refuses passage =
    shows_by captures pings acks prober target world ahead clocks leg complete refuses passage
    (sees.missed not_prober a) (sees.missed not_prober b) (sees.missed not_target c) (sees.missed not_target d)

pub shows_between : (captures : List Capture) (pings acks : List Sighting) (prober target : IpAddr)
    (world : World) (ahead : ℕ → ℕ) (clocks : Clocks) (leg : Leg)
    → IsSeenAt captures prober pings leg.at_prober.ping → IsSeenAt captures prober acks leg.at_prober.ack
    → IsSeenAt captures target pings leg.at_target.ping → IsSeenAt captures target acks leg.at_target.ack
    → (leg.is_prober_complete ≡ true → (time : ℕ) × (leg.at_prober.ping ≡ Some time)
    × Covers captures prober time 10000000)
    → (leg.is_target_complete ≡ true → (first : Sighting) × (slice_get pings 0 ≡ Some first)
    × Covers captures target (first.time - 1000000) 12000000)
    → AreComplete captures pings acks prober target world ahead clocks
    → Refuses (when refused world) leg.refusal → IsPassage pings acks leg.between
    → (between : ℕ) × Shows (record clocks { between = between }) world leg
shows_between captures pings acks prober target world ahead clocks leg ping_prober ack_prober ping_target
    ack_target prober_runs target_runs complete refuses passage =
    shows_by captures pings acks prober target world ahead clocks leg complete refuses passage
    (sees_by captures ahead prober sent pings clocks.prober leg.is_prober_complete leg.at_prober.ping
    complete.ping_at_prober complete.at_prober ping_prober
    (λ c. prober_runs_then sent pings (timely_sent sent) c))
    (sees_by captures ahead prober returned acks clocks.prober leg.is_prober_complete leg.at_prober.ack
    complete.ack_at_prober complete.at_prober ack_prober
    (λ c. prober_runs_then returned acks
    (timely_returned sent asked answered returned order.is_asked order.is_answered order.is_returned
    complete.return) c))
    (sees_by captures ahead target asked pings clocks.target leg.is_target_complete leg.at_target.ping
    complete.ping_at_target complete.at_target ping_target
    (λ c. awaited captures ahead target sent asked asked pings complete.near complete.ping_on_its_way
    (timely_asked sent asked order.is_asked complete.arrival) (behind_itself asked) (target_runs c)))
    (sees_by captures ahead target answered acks clocks.target leg.is_target_complete leg.at_target.ack
    complete.ack_at_target complete.at_target ack_target
    (λ c. awaited captures ahead target sent asked answered pings complete.near complete.ping_on_its_way
    (timely_answered sent asked answered order.is_asked order.is_answered complete.answer)
    (behind_asked asked answered order.is_answered) (target_runs c)))
  where
    sent : Option ℕ
    sent = when ping_sent world

    asked : Option ℕ
    asked = when ping_arrived world

    answered : Option ℕ
    answered = when ack_sent world

    returned : Option ℕ
    returned = when ack_arrived world

    order : Follows (when refused world) sent asked answered returned
    order = follows world complete.obeys

    -- the ping is seen at the prober, whatever captures there miss
    pinged : Sees false clocks.prober sent leg.at_prober.ping
    pinged = sees_by captures ahead prober sent pings clocks.prober false leg.at_prober.ping
        complete.ping_at_prober complete.at_prober ping_prober (λ c. absurd (cc (c)))

    prober_runs_then : (passed : Option ℕ) (sightings : List Sighting) → IsTimely sent passed
        → leg.is_prober_complete ≡ true → RunsThen captures ahead prober passed
    prober_runs_then passed sightings timely c = followed captures ahead prober clocks.prober sent passed
        leg.at_prober.ping false complete.at_prober order.is_sent timely pinged (prober_runs c)
