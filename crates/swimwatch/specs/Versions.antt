-- Which streams members merge, by the versions in their records.
use Rattle.std.specs.Prelude.{ℕ, Bool, true, false, nat_lt, nat_le, ◌&&◌, if◌then◌else◌, List, [], length, Option, Some}
use Rattle.std.specs.Prelude.{None, slice_index_or}
use Rattle.std.specs.List.{fold, list_all}
use Rattle.swim_claim.specs.Claim.{details_of}
use Rattle.swim_claim.specs.Details.{DetailsValue}
use Rattle.swim_wire.specs.declared.state_record.StateRecord.{StateRecord}
use Rattle.swimwatch.specs.declared.heard.versions.Range.{Range}
use Rattle.swimwatch.specs.declared.heard.versions.Shared.{Shared}

-- the versions in details, if there are some
abbrev pub vsn_in : Option DetailsValue → List ℕ
vsn_in None = []
vsn_in (Some details) = details.vsn

-- the versions in a record: in its claim if that is an Alive, or else told beside it
abbrev pub vsn_of : Option DetailsValue → Option DetailsValue → List ℕ
vsn_of None told = vsn_in told
vsn_of (Some details) told = details.vsn

abbrev pub versions_in : StateRecord → List ℕ
versions_in r = vsn_of (details_of r.claim) r.told

-- whether there are details: a record that is alive has its own
abbrev pub has_details : Option DetailsValue → Bool
has_details None = false
has_details (Some details) = true

abbrev pub any_range : Range
any_range = record { lowest = 0; highest = 255 }

abbrev pub any_shared : Shared
any_shared = record { protocol = any_range; user = any_range }

-- the versions of a range from min to max
abbrev pub narrowed : Range → ℕ → ℕ → Range
narrowed range min max = record {
  lowest = if nat_lt range.lowest min then min else range.lowest;
  highest = if nat_lt max range.highest then max else range.highest;
}

-- net.go: a member says the lowest and the highest version that it understands and the one that it
-- speaks, of memberlist's protocol and then of its user's
abbrev pub shared_between : Shared → List ℕ → Shared
shared_between shared vsn = record {
  protocol = narrowed shared.protocol (slice_index_or vsn 0 0) (slice_index_or vsn 1 0);
  user = narrowed shared.user (slice_index_or vsn 3 0) (slice_index_or vsn 4 0);
}

-- what a record leaves of the versions that are shared: only one that is alive, with versions,
-- counts
abbrev pub shared_with : Shared → StateRecord → Shared
shared_with shared r =
    if has_details (details_of r.claim) && nat_lt 0 (length (versions_in r))
    then shared_between shared (versions_in r) else shared

abbrev pub is_within : Range → ℕ → Bool
is_within range version = nat_le range.lowest version && nat_le version range.highest

-- what a record's member speaks is understood; one without versions speaks 0
abbrev pub speaks : Shared → StateRecord → Bool
speaks shared r = is_within shared.protocol (slice_index_or (versions_in r) 2 0)
    && is_within shared.user (slice_index_or (versions_in r) 5 0)

-- memberlist.go, verifyProtocol: each speaks what all who are alive understand
abbrev pub is_understood : List StateRecord → Bool
is_understood records =
    list_all (λ r. speaks (fold shared_with any_shared records) r) records
