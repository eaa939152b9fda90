-- The versions that members speak and understand, of memberlist's protocol and of the program's own,
-- and whether all that are alive understand each other (verifyProtocol in memberlist.go).
use Rattle.std.specs.Prelude.{ℕ, max, min, Bool, true, ◌&&◌, nat_le, List, [], ◌∷◌, Option, Some, None}
use Rattle.swim_claim.specs.Details.{DetailsValue}
use Rattle.swim_claim.specs.declared.claim.Claim.{Claim}
use Rattle.swim_claim.specs.declared.claim.Claim.TheVariants as claim
use Rattle.memberlist_view.specs.Told.{ViewValue}
use Rattle.memberlist_view.specs.declared.entry.Entry.{Entry}
use Rattle.memberlist_view.specs.declared.entry.State.{State}
use Rattle.memberlist_view.specs.declared.entry.State.TheVariants as state
use Rattle.memberlist_member.specs.declared.versions.Understood.{Understood}

-- the versions of a member that is shown alive, if it has any
abbrev pub versions_if_alive : State → Option DetailsValue → Option (List ℕ)
versions_if_alive state.Alive (Some details) = Some details.vsn
versions_if_alive other details = None

abbrev pub versions_shown : Entry → Option (List ℕ)
versions_shown entry = versions_if_alive entry.state entry.details

-- those of one that a record says is alive
abbrev pub versions_told : Claim → Option (List ℕ)
versions_told (claim.Alive name inc details) = Some details.vsn
versions_told other = None

-- before anybody is asked, all is understood
abbrev pub everything : Understood
everything = record { least = 0; greatest = 255; own_least = 0; own_greatest = 255 }

-- what is understood by one member more. One without versions understands all.
abbrev pub understood_by : Understood → Option (List ℕ) → Understood
understood_by u (Some (pmin ∷ pmax ∷ pcur ∷ dmin ∷ dmax ∷ dcur ∷ [])) =
    record {
      least = max u.least pmin;
      greatest = min u.greatest pmax;
      own_least = max u.own_least dmin;
      own_greatest = min u.own_greatest dmax;
    }
understood_by u other = u

-- these versions are understood
abbrev pub is_within : Understood → ℕ → ℕ → Bool
is_within u protocol own =
    (nat_le u.least protocol && nat_le protocol u.greatest) && (nat_le u.own_least own && nat_le own u.own_greatest)

-- what a member speaks is understood. One without versions speaks version 0 of both.
abbrev pub is_understood : Understood → Option (List ℕ) → Bool
is_understood u None = true
is_understood u (Some (pmin ∷ pmax ∷ pcur ∷ dmin ∷ dmax ∷ dcur ∷ [])) = is_within u pcur dcur
is_understood u (Some other) = is_within u 0 0

module _ {X : Type 0} (versions : X → Option (List ℕ)) where
  unfoldable pub understood_by_all : Understood → List X → Understood
  understood_by_all u [] = u
  understood_by_all u (x ∷ xs) = understood_by_all (understood_by u (versions x)) xs

  unfoldable pub are_understood : Understood → List X → Bool
  are_understood u [] = true
  are_understood u (x ∷ xs) = is_understood u (versions x) && are_understood u xs

-- what all understand that are alive in the view or in these records
abbrev pub understood_by_both : ViewValue → List Claim → Understood
understood_by_both view records =
    understood_by_all versions_told (understood_by_all (λ shown. versions_shown shown.1) everything view.entries) records

-- each of them speaks what all of them understand
abbrev pub are_compatible : ViewValue → List Claim → Bool
are_compatible view records =
    let u = understood_by_both view records in
    are_understood (λ shown. versions_shown shown.1) u view.entries && are_understood versions_told u records
