-- The dump of a table that memberlist merges: one record for each member whose versions are known.
use Rattle.std.specs.Prelude.{ℕ, ◌&&◌, Bool, false, Option, Some, None, List, [], ◌∷◌, ◌++◌, length, nat_le, nat_lt}
use Rattle.std.specs.Prelude.{option_and_then, if◌then◌else◌}
use Rattle.std.specs.List.{flat_map}
use Rattle.swim_claim.specs.declared.claim.Claim.{Claim}
use Rattle.swim_claim.specs.declared.claim.Claim.TheVariants.{Alive, Suspect, Confirm, Leave}
use Rattle.swim_claim.specs.Claim.{details_of, inc_of}
use Rattle.swim_claim.specs.Details.{DetailsValue}
use Rattle.swim_wire.specs.Canonical.{header_bytes, state_bytes_with}
use Rattle.swim_wire.specs.Pairs.{details_or_none}
use Rattle.swim_table.specs.Standing.{Standing}
use Rattle.swim_table.specs.Table.{Entries}

-- Versions that do not make memberlist refuse a whole stream by themselves: of the protocol and of
-- the delegate the least, the greatest and the current one, which is between them; a protocol's
-- are not 0.
abbrev pub are_versions : List ℕ → Bool
are_versions (pmin ∷ pmax ∷ pcur ∷ dmin ∷ dmax ∷ dcur ∷ []) =
    nat_lt 0 pmin && nat_le pmin pcur && nat_le pcur pmax && nat_le dmin dcur && nat_le dcur dmax
are_versions vsn = false

-- the later of a top and a home: the top, but the home if the top is an Alive, or if the home has a
-- greater incarnation, so that the member came back
abbrev pub later : Claim → Claim → Claim
later (Alive name inc details) home = home
later (Suspect name inc) home = if nat_lt inc (inc_of home) then home else Suspect name inc
later (Confirm name inc) home = if nat_lt inc (inc_of home) then home else Confirm name inc
later (Leave name inc) home = if nat_lt inc (inc_of home) then home else Leave name inc

-- the details of a home
abbrev pub details_at : Option Claim → DetailsValue
details_at home = details_or_none (option_and_then details_of home)

-- the claim that is told of a member with this top and this home: none if its versions are not known
abbrev pub told_at : Claim → Option Claim → List Claim
told_at top None = []
told_at top (Some home) =
    if are_versions (details_at (Some home)).vsn then later top home ∷ [] else []

-- the claim that is told of an entry
abbrev pub told : Standing → List Claim
told entry = told_at entry.top entry.home

-- the claims that are told of a table
abbrev pub told_of : Entries → List Claim
told_of table = flat_map told table

-- the details of the home
abbrev pub home_details : Standing → DetailsValue
home_details entry = details_at entry.home

-- the record of an entry, with the details of the home
abbrev pub entry_bytes : Standing → List ℕ
entry_bytes entry = flat_map (state_bytes_with (home_details entry)) (told entry)

-- a header, a record for each claim that is told, and the user state
abbrev pub memberlist_dump_bytes : Entries → Bool → List ℕ → List ℕ
memberlist_dump_bytes table join user =
    header_bytes (record { nodes = length (told_of table); user_len = length user; join = join })
    ++ flat_map entry_bytes table ++ user
