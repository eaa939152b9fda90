-- A packet as data.
use Rattle.std.specs.Prelude.{◌≡◌, ◌≢◌, ℕ, ◌≤◌, List, [], length}
use Rattle.swim_claim.specs.declared.claim.Claim.{Claim}
use Rattle.swim_claim.specs.declared.claim.Claim.TheVariants.{Alive, Suspect, Confirm, Leave}
use Rattle.swim_claim.specs.Limits.{max_name_len}

-- a claim, and the name of the member that makes it
pub record PacketValue : Type 0 where
  pub claim : Claim
  pub from : List ℕ

-- the name is empty for an Alive, the member itself for a Leave, and another member for a Confirm
abbrev pub IsMadeBy : Claim → List ℕ → Type 0
IsMadeBy (Alive name inc details) from = from ≡ []
IsMadeBy (Suspect name inc) from = Unit {0}
IsMadeBy (Confirm name inc) from = from ≢ name
IsMadeBy (Leave name inc) from = from ≡ name

-- the name is of a member that may make the claim, and has at most 1,024 bytes
abbrev pub IsLegalPacket : Claim → List ℕ → Type 0
IsLegalPacket claim from = IsMadeBy claim from × (length from ≤ max_name_len)
