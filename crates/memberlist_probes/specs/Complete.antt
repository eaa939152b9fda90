-- What captures that miss nothing show of a probe.
use Rattle.std.specs.Prelude.{◌≡◌, ℕ, ◌+◌, ◌≤◌, IfSome, List}
use Rattle.std.specs.declared.net.ip_addr.IpAddr.{IpAddr}
use Rattle.memberlist_probes.specs.declared.captures.Capture.{Capture}
use Rattle.memberlist_probes.specs.declared.captures.Sighting.{Sighting}
use Rattle.memberlist_probes.specs.declared.leg.Leg.{Leg}
use Rattle.memberlist_probes.specs.Captured.{IsAt, Keeps, IsOnItsWay}
use Rattle.memberlist_probes.specs.Showing.{Refuses, Clocks, Shows}
use Rattle.memberlist_probes.specs.Worlds.{Step, World, when, ping_sent, ping_arrived, refused, ack_sent, ack_arrived, Obeys}

-- a step happens within ten seconds of the ping, in microseconds
abbrev pub IsSettled : World → Step → Type 0
IsSettled world step = IfSome (when step world) (λ time.
    IfSome (when ping_sent world) (λ sent. time ≤ sent + 10000000))

-- The captures miss nothing of the ping and its ack, all is over within ten seconds, the clocks of two
-- captures differ by a second at most, and those at one host not at all.
pub record AreComplete (captures : List Capture) (pings acks : List Sighting) (prober target : IpAddr)
    (world : World) (ahead : ℕ → ℕ) (clocks : Clocks) : Type 0 where
  pub obeys : Obeys world
  pub arrival : IsSettled world ping_arrived
  pub answer : IsSettled world ack_sent
  pub return : IsSettled world ack_arrived
  pub near : (one other : ℕ) → ahead one ≤ ahead other + 1000000
  pub at_prober : (number : ℕ) → IsAt captures number prober → ahead number ≡ clocks.prober
  pub at_target : (number : ℕ) → IsAt captures number target → ahead number ≡ clocks.target
  pub ping_at_prober : Keeps captures ahead prober (when ping_sent world) pings
  pub ping_at_target : Keeps captures ahead target (when ping_arrived world) pings
  pub ack_at_prober : Keeps captures ahead prober (when ack_arrived world) acks
  pub ack_at_target : Keeps captures ahead target (when ack_sent world) acks
  pub ping_on_its_way : IsOnItsWay ahead (when ping_sent world) (when ping_arrived world) pings
  pub ack_on_its_way : IsOnItsWay ahead (when ack_sent world) (when ack_arrived world) acks

-- If captures are complete, and what a leg says of a refusal is right, it shows the world by their
-- clocks.
abbrev pub ShowsComplete : List Capture → List Sighting → List Sighting → IpAddr → IpAddr → Leg → Type 0
ShowsComplete captures pings acks prober target leg = (world : World) (ahead : ℕ → ℕ) (clocks : Clocks)
    → AreComplete captures pings acks prober target world ahead clocks
    → Refuses (when refused world) leg.refusal
    → (between : ℕ) × Shows (record clocks { between = between }) world leg
