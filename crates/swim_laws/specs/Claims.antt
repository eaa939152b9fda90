-- The claims in what was heard.
use Rattle.std.specs.Prelude.{Option, Some, None, List, [], ◌∷◌, ◌++◌}
use Rattle.std.specs.Option.{option_to_list}
use Rattle.swim_claim.specs.declared.claim.Claim.{Claim}
use Rattle.swim_claim.specs.declared.claim.Claim.TheVariants as claim
use Rattle.memberlist_view.specs.declared.heard.Heard.{Heard}
use Rattle.memberlist_view.specs.declared.heard.Said.{Said}
use Rattle.memberlist_view.specs.declared.heard.Said.TheVariants.{Alive, Suspect, Dead, Left, Seen}

-- the claim that was made: who made it, and whether a name joins by it, are no part of it, and
-- that a packet showed a member is no claim
abbrev pub claim_of : Said → Option Claim
claim_of (Alive name inc details joins) = Some (claim.Alive name inc details)
claim_of (Suspect name inc from) = Some (claim.Suspect name inc)
claim_of (Dead name inc from) = Some (claim.Confirm name inc)
claim_of (Left name inc) = Some (claim.Leave name inc)
claim_of (Seen name place) = None

-- the claims that were heard, in order
abbrev pub claims_of : List Heard → List Claim
claims_of [] = []
claims_of (heard ∷ later) = option_to_list (claim_of heard.said) ++ claims_of later
