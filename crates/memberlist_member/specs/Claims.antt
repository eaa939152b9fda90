-- The claims that a member makes.
use Rattle.std.specs.Prelude.{ℕ, List, if◌then◌else◌}
use Rattle.std.specs.Str.{bytes_eq}
use Rattle.swim_claim.specs.declared.claim.Claim.{Claim}
use Rattle.swim_claim.specs.declared.claim.Claim.TheVariants.{Confirm, Leave}
use Rattle.swim_wire.specs.Packet.{PacketValue}

-- a claim, and who makes it
abbrev pub packet_of : Claim → List ℕ → PacketValue
packet_of claim from = record { claim = claim; from = from }

-- deadNode: a member that says itself that it is dead has left
abbrev pub dead_by : List ℕ → ℕ → List ℕ → Claim
dead_by name inc by = if bytes_eq name by then Leave name inc else Confirm name inc
