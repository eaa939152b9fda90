-- Where a capture was taken, by the ends of its packets.
use Rattle.std.specs.Prelude.{Bool, true, false, if◌then◌else◌, ◌≡◌, ◌⊎◌, ◌↔◌, List, [], Option, Some, None}
use Rattle.std.specs.List.{AllByRecursion}
use Rattle.std.specs.declared.net.ip_addr.IpAddr.{IpAddr}
use Rattle.memberlist_probes.specs.declared.point.Point.{Point}
use Rattle.memberlist_probes.specs.declared.point.Point.TheVariants as point

-- the hosts between which a packet went
abbrev pub Ends : Type 0
Ends = IpAddr × IpAddr

abbrev pub IsEnd : IpAddr → Ends → Type 0
IsEnd host ends = (host ≡ ends.0) ⊎ (host ≡ ends.1)

abbrev pub IsEndOfEach : IpAddr → List Ends → Type 0
IsEndOfEach host packets = AllByRecursion (IsEnd host) packets

-- which hosts are an end of each packet: all of them if there is none, else two, one or none
abbrev pub IsPointOf : List Ends → Point → Type 0
IsPointOf packets point.Unknown = packets ≡ []
IsPointOf packets (point.Either one other) =
    (host : IpAddr) → IsEndOfEach host packets ↔ ((host ≡ one) ⊎ (host ≡ other))
IsPointOf packets (point.At one) = (host : IpAddr) → IsEndOfEach host packets ↔ (host ≡ one)
IsPointOf packets point.Between = (host : IpAddr) → IsEndOfEach host packets → ⊥

abbrev pub host_of : Point → Option IpAddr
host_of point.Unknown = None
host_of (point.Either one other) = None
host_of (point.At host) = Some host
host_of point.Between = None

-- of two hosts, those that are an end of one more packet
abbrev pub narrowed : IpAddr → IpAddr → Bool → Bool → Point
narrowed one other true true = point.Either one other
narrowed one other true false = point.At one
narrowed one other false true = point.At other
narrowed one other false false = point.Between

abbrev pub kept : IpAddr → Bool → Point
kept host is_end = if is_end then point.At host else point.Between
