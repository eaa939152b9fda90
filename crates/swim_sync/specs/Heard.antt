-- What each member of a cluster has heard after events: lists of claims, without tables or bytes.
use Rattle.std.specs.Prelude.{ℕ, ◌+◌, Bool, not, ◌&&◌, nat_eq, nat_lt, nat_le, if◌then◌else◌, Option, Some, None, List}
use Rattle.std.specs.Prelude.{[], ◌∷◌, ◌++◌, length, get_or, set, slice_get}
use Rattle.std.specs.Ordering.{is_eq}
use Rattle.swim_claim.specs.declared.claim.Claim.{Claim}
use Rattle.swim_claim.specs.declared.claim.Claim.TheVariants.{Alive, Suspect, Confirm, Leave}
use Rattle.swim_claim.specs.Claim.{name_of}
use Rattle.swim_claim.specs.Details.{DetailsValue, details_cmp}
use Rattle.swim_table.specs.Table.{name_cmp}
use Rattle.swim_table.specs.Join.{greater}
use Rattle.swim_sync.specs.declared.event.Event.{Event}
use Rattle.swim_sync.specs.declared.event.Event.TheVariants.{Hear, HearAll, Exchange, Half, Refute}

-- who a member is
pub record Member : Type 0 where
  pub name : List ℕ
  pub details : DetailsValue

-- of a claim and the winner of other claims about its name, the one that the other does not
-- override
abbrev pub standing_with : Claim → Option Claim → Claim
standing_with c None = c
standing_with c (Some d) = greater c d

-- the winning claim about the name, which no other overrides, or none if no claim is about it
abbrev pub what_stands : List ℕ → List Claim → Option Claim
what_stands name [] = None
what_stands name (c ∷ claims) =
    if is_eq (name_cmp name (name_of c)) then Some (standing_with c (what_stands name claims))
    else what_stands name claims

-- the member's Alive at the incarnation, which is at most 4,294,967,295
abbrev pub own_alive : Member → ℕ → List Claim
own_alive member inc =
    if nat_le inc 4294967295 then Alive member.name inc member.details ∷ [] else []

-- how the member refutes the winning claim about it: not if that is its own Alive, or final
abbrev pub refuted : Member → Option Claim → List Claim
refuted member None = []
refuted member (Some (Alive name inc details)) =
    if is_eq (details_cmp details member.details) then [] else own_alive member (inc + 1)
refuted member (Some (Suspect name inc)) = own_alive member (inc + 1)
refuted member (Some (Confirm name inc)) = []
refuted member (Some (Leave name inc)) = []

-- what a member that has heard these claims says to refute them
abbrev pub refutation : Member → List Claim → List Claim
refutation member claims = refuted member (what_stands member.name claims)

-- nobody refutes if there is no node
abbrev pub refutation_by : Option Member → List Claim → List Claim
refutation_by None claims = []
refutation_by (Some member) claims = refutation member claims

-- what node k has heard
abbrev pub heard_by : List (List Claim) → ℕ → List Claim
heard_by lists k = get_or lists k []

-- what node k's refutation adds
abbrev pub refutation_of : List Member → List (List Claim) → ℕ → List Claim
refutation_of members lists k = refutation_by (slice_get members k) (heard_by lists k)

-- node k hears these claims too; if there is no node k, nothing changes
abbrev pub hear : List (List Claim) → ℕ → List Claim → List (List Claim)
hear lists k claims = set lists k (heard_by lists k ++ claims)

-- two nodes hear the same
abbrev pub hear_both : List (List Claim) → ℕ → ℕ → List Claim → List (List Claim)
hear_both lists j k claims = set (set lists j claims) k claims

-- whether these are the numbers of two different nodes
abbrev pub are_two_nodes : ℕ → ℕ → ℕ → Bool
are_two_nodes nodes j k = (nat_lt j nodes && nat_lt k nodes) && not (nat_eq j k)

-- what was heard after one event; an event that does not name nodes, or names one twice, changes
-- nothing
abbrev pub after : List Member → List (List Claim) → Event → List (List Claim)
after members lists (Hear k claim) = hear lists k (claim ∷ [])
after members lists (HearAll k claims) = hear lists k claims
after members lists (Exchange j k) =
    if are_two_nodes (length lists) j k
    then hear_both lists j k (heard_by lists j ++ heard_by lists k)
    else lists
after members lists (Half j k) =
    if are_two_nodes (length lists) j k then hear lists k (heard_by lists j) else lists
after members lists (Refute k) = hear lists k (refutation_of members lists k)

-- what was heard after the events in order
abbrev pub heard : List Member → List (List Claim) → List Event → List (List Claim)
heard members start [] = start
heard members start (event ∷ events) = heard members (after members start event) events
