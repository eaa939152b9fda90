-- What captures have of the packets of a probe.
use Rattle.std.specs.Prelude.{Bool, nat_eq, ◌≡◌, ℕ, ◌+◌, ◌≤◌, Option, Some, None, IfSome, List, All, Contains}
use Rattle.std.specs.Prelude.{slice_get, ◌-◌, MatchBool, MatchOption}
use Rattle.std.specs.List.{list_any}
use Rattle.std.specs.declared.net.ip_addr.IpAddr.{IpAddr}
use Rattle.memberlist_probes.specs.declared.captures.Capture.{Capture}
use Rattle.memberlist_probes.specs.declared.captures.Sighting.{Sighting}
use Rattle.memberlist_probes.specs.declared.leg.Leg.{Leg}
use Rattle.memberlist_probes.specs.declared.leg.Passage.{Passage}
use Rattle.memberlist_probes.specs.Points.{host_of}

-- ---- where and when a packet was seen

-- the capture with this number was taken at the host
abbrev pub IsAt : List Capture → ℕ → IpAddr → Type 0
IsAt captures number host =
    (capture : Capture) × (slice_get captures number ≡ Some capture) × (host_of capture.point ≡ Some host)

-- a capture with this number has it
abbrev pub has_capture : List Sighting → ℕ → Bool
has_capture sightings capture = list_any (λ seen. nat_eq seen.capture capture) sightings

-- a capture at the host has it at this time
abbrev pub WasSeen : List Capture → IpAddr → List Sighting → ℕ → Type 0
WasSeen captures host sightings time =
    (seen : Sighting) × Contains sightings seen × IsAt captures seen.capture host × (seen.time ≡ time)

-- no capture at the host has it
abbrev pub WasNotSeen : List Capture → IpAddr → List Sighting → Type 0
WasNotSeen captures host sightings = All (λ seen. IsAt captures seen.capture host → ⊥) sightings

abbrev pub IsSeenAt : List Capture → IpAddr → List Sighting → Option ℕ → Type 0
IsSeenAt captures host sightings time =
    MatchOption time (WasNotSeen captures host sightings) (WasSeen captures host sightings)

-- the capture was taken at the host, and ran from a time on, for so long
abbrev pub IsCovering : Capture → IpAddr → ℕ → ℕ → Type 0
IsCovering capture host start span = (host_of capture.point ≡ Some host)
    × (capture.begin ≤ start) × (start + span ≤ capture.end)

-- a capture at the host ran from a time on, for so long
abbrev pub Covers : List Capture → IpAddr → ℕ → ℕ → Type 0
Covers captures host start span = (number : ℕ) × (capture : Capture)
    × (slice_get captures number ≡ Some capture) × IsCovering capture host start span

-- the times are those of a ping and an ack in one capture, or of an ack, or none
pub data IsPassage (pings acks : List Sighting) (passage : Passage) : Type 0 where
  none : passage.ping ≡ None → passage.ack ≡ None → IsPassage pings acks passage
  ack : (seen : Sighting) → Contains acks seen → passage.ping ≡ None
      → passage.ack ≡ Some seen.time → IsPassage pings acks passage
  both : (ping seen : Sighting) → Contains pings ping → Contains acks seen
      → ping.capture ≡ seen.capture → passage.ping ≡ Some ping.time
      → passage.ack ≡ Some seen.time → IsPassage pings acks passage

-- the ping was seen at the host, and a capture there ran for ten seconds after it
abbrev pub IsFollowed : List Capture → IpAddr → Option ℕ → Type 0
IsFollowed captures host ping = (time : ℕ) × (ping ≡ Some time) × Covers captures host time 10000000

-- a capture at the host ran from a second before the ping, by the first clock that has it, to eleven
-- seconds after it
abbrev pub IsAwaited : List Capture → IpAddr → List Sighting → Type 0
IsAwaited captures host pings = (first : Sighting) × (slice_get pings 0 ≡ Some first)
    × Covers captures host (first.time - 1000000) 12000000

-- the leg has what was seen of a ping and its ack between two hosts
pub record IsLegOf (captures : List Capture) (pings acks : List Sighting) (prober target : IpAddr) (leg : Leg) : Type 0 where
  pub ping_at_prober : IsSeenAt captures prober pings leg.at_prober.ping
  pub ack_at_prober : IsSeenAt captures prober acks leg.at_prober.ack
  pub ping_at_target : IsSeenAt captures target pings leg.at_target.ping
  pub ack_at_target : IsSeenAt captures target acks leg.at_target.ack
  pub on_the_way : IsPassage pings acks leg.between
  pub followed : MatchBool leg.is_prober_complete (IsFollowed captures prober leg.at_prober.ping)
      (IsFollowed captures prober leg.at_prober.ping → ⊥)
  pub awaited : MatchBool leg.is_target_complete (IsAwaited captures target pings)
      (IsAwaited captures target pings → ⊥)

-- ---- captures that miss nothing

-- By clocks that are ahead by so much each, captures at a host have a packet when it passes the host,
-- and each that runs then has it.
pub record Keeps (captures : List Capture) (ahead : ℕ → ℕ) (host : IpAddr) (passed : Option ℕ) (sightings : List Sighting) : Type 0 where
  pub right : All (λ seen. IsAt captures seen.capture host
      → (time : ℕ) × (passed ≡ Some time) × (seen.time ≡ time + ahead seen.capture)) sightings
  pub all : (number : ℕ) (capture : Capture) (time : ℕ) → slice_get captures number ≡ Some capture
      → host_of capture.point ≡ Some host → passed ≡ Some time
      → capture.begin ≤ time + ahead number → time + ahead number ≤ capture.end
      → (seen : Sighting) × Contains sightings seen × (seen.capture ≡ number)

-- wherever a packet is seen, it was sent before, and arrives after that if it does
abbrev pub IsOnItsWay : (ℕ → ℕ) → Option ℕ → Option ℕ → List Sighting → Type 0
IsOnItsWay ahead sent arrived sightings = All (λ seen.
    (start time : ℕ) × (sent ≡ Some start) × (seen.time ≡ time + ahead seen.capture)
    × (start ≤ time) × IfSome arrived (λ end. time ≤ end)) sightings
