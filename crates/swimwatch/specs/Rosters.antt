-- Who knows what: each name with what is said about it, and the names about which two differ.
use Rattle.std.specs.Prelude.{◌≡◌, ℕ, Bool, true, false, not, ◌&&◌, nat_le, if◌then◌else◌}
use Rattle.std.specs.Prelude.{List, [], length, map, fold, Option, Some, None}
use Rattle.std.specs.BTreeMap.{insert_entry, is_at}
use Rattle.std.specs.List.Sorted.{IsStrictlySortedBy}
use Rattle.std.specs.Map.{lookup, keys_of}
use Rattle.std.specs.Ordering.{is_eq}
use Rattle.memberlist_view.specs.Rules.{name_cmp, has_name}
use Rattle.memberlist_view.specs.Told.{Entries}
use Rattle.serf_view.specs.Intents.{Beliefs, intent_of, leaving_of}
use Rattle.swim_claim.specs.Claim.{name_of}
use Rattle.swim_wire.specs.declared.state_record.StateRecord.{StateRecord}
use Rattle.swimwatch.specs.Records.{BeginsWithState, claims_in}
use Rattle.swimwatch.specs.SerfState.{left_in}
use Rattle.swimwatch.specs.declared.view.known.Known.{Known}
use Rattle.swimwatch.specs.Knowing.{as_left, is_same, known_of_entry, known_of_record, or_else}

-- each name with what is said about it
abbrev pub Members : Type 0
Members = List (List ℕ × Known)

-- what is said about a name, if anything
abbrev pub said_of : Members → List ℕ → Option Known
said_of members name = lookup (is_at (name_cmp name)) members

-- each name is below those after it, so none comes twice
abbrev pub IsInOrder : Members → Type 0
IsInOrder members = IsStrictlySortedBy name_cmp (keys_of members)

-- what is known after one more thing: the details that were known stay if none are given
abbrev pub with_details_of : Option Known → Known → Known
with_details_of None known = known
with_details_of (Some old) known = record known { details = or_else known.details old.details }

-- the members after one more thing is said about a name
abbrev pub noted : Members → List ℕ → Known → Members
noted members name known =
    insert_entry name_cmp members name (with_details_of (said_of members name) known)

-- the members after one more record
abbrev pub note_record : Members → StateRecord → Members
note_record members said = noted members (name_of said.claim) (known_of_record said)

-- what these records say, one after the other
abbrev pub members_of : List StateRecord → Members
members_of records = fold note_record [] records

-- a name that a member can have: 1 to 1,024 bytes
abbrev pub is_name : List ℕ → Bool
is_name name = nat_le 1 (length name) && nat_le (length name) 1024

-- Serf has this member among those that left
abbrev pub is_left : List (List ℕ) → List ℕ → Bool
is_left left name = is_name name && has_name name left

-- the members of which Serf has these as left
abbrev pub with_left : List (List ℕ) → Members → Members
with_left left members =
    map (λ e. (e.0, if is_left left e.0 then as_left e.1 else e.1)) members

-- the members after this one has left, if it is among them
abbrev pub left_at : Members → List ℕ → Members
left_at members name =
    map (λ e. (e.0, if is_eq (name_cmp name e.0) then as_left e.1 else e.1)) members

-- the bytes begin with a push/pull stream whose records and Serf's state say this about members
abbrev pub SaidInStream : List ℕ → Members → Type 0
SaidInStream bytes members =
    (records : List StateRecord) × (user : List ℕ)
    × BeginsWithState bytes (claims_in records) user
    × (members ≡ with_left (left_in user) (members_of records))

-- each name of a view with what its entry is known as, where Serf's intents say who is leaving
abbrev pub shown_members : Beliefs → Entries → Members
shown_members intents entries =
    map (λ e. (e.0, known_of_entry e.1 (leaving_of (intent_of intents e.0)))) entries

-- what is said about a name before and after differs
abbrev pub differs : Option Known → Option Known → Bool
differs None None = false
differs None (Some is) = true
differs (Some was) None = true
differs (Some was) (Some is) = not (is_same is was)

-- a name of the first about which the two differ
abbrev pub is_other_now : Option Known → Option Known → Bool
is_other_now None is = false
is_other_now (Some was) is = differs (Some was) is

-- a name that only the second has
abbrev pub is_new : Option Known → Option Known → Bool
is_new None (Some is) = true
is_new None None = false
is_new (Some was) is = false

-- what two rosters say about this name differs
abbrev pub differ_about : Members → Members → List ℕ → Bool
differ_about before after name = differs (said_of before name) (said_of after name)
