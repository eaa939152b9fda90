-- Where a member is.
use Rattle.std.specs.Prelude.{◌≡◌, ℕ, Some, List, Contains}
use Rattle.swim_claim.specs.declared.claim.Claim.{Claim}
use Rattle.swim_claim.specs.declared.claim.Claim.TheVariants.{Alive, Suspect, Confirm, Leave}
use Rattle.swim_claim.specs.Details.{DetailsValue}
use Rattle.swim_table.specs.Standing.{Standing}

-- the address and the port are the same
abbrev pub IsSamePlace : DetailsValue → DetailsValue → Type 0
IsSamePlace d e = (d.addr ≡ e.addr) × (d.port ≡ e.port)

-- All Alives of the name are at one place, whatever their versions are. Where they are not, a table
-- has the place of the newest, and a view that of the first which was believed until the member has
-- left, or was dead for longer than the wait: Alive 1 at A and Alive 2 at B make a home at B, and
-- details at A with a conflict.
abbrev pub IsAtOnePlace : List ℕ → List Claim → Type 0
IsAtOnePlace name claims = (i j : ℕ) (d e : DetailsValue) → Contains claims (Alive name i d)
    → Contains claims (Alive name j e) → IsSamePlace d e

-- the claim is an Alive at this place
abbrev pub IsAliveAtPlace : DetailsValue → Claim → Type 0
IsAliveAtPlace d (Alive name inc details) = IsSamePlace d details
IsAliveAtPlace d (Suspect name inc) = ⊥
IsAliveAtPlace d (Confirm name inc) = ⊥
IsAliveAtPlace d (Leave name inc) = ⊥

-- there is a home, and it is at this place
abbrev pub IsHomeAt : DetailsValue → Standing → Type 0
IsHomeAt d standing = (home : Claim) × (standing.home ≡ Some home) × IsAliveAtPlace d home
