-- What somebody says about a member, and when two say the same.
use Rattle.std.specs.Prelude.{ℕ, zero, suc, Bool, true, false, not, ◌&&◌, ◌||◌, ◌==◌, nat_eq}
use Rattle.std.specs.Prelude.{if◌then◌else◌, List, [], ◌∷◌, length, Option, Some, None}
use Rattle.std.specs.Prelude.{Result, Ok, Err}
use Rattle.std.specs.List.{list_all}
use Rattle.std.specs.Map.{lookup}
use Rattle.std.specs.Option.{is_none}
use Rattle.std.specs.Str.{bytes_eq}
use Rattle.swim_claim.specs.Claim.{kind_of, inc_of, details_of}
use Rattle.swim_claim.specs.Details.{DetailsValue}
use Rattle.swim_claim.specs.declared.claim.Kind.{Kind}
use Rattle.swim_claim.specs.declared.claim.Kind.TheVariants as kind
use Rattle.swim_pack.specs.Composing.{◌>>=◌, gives}
use Rattle.swim_pack.specs.Reading.{Reading, count_at, raw_at}
use Rattle.swim_wire.specs.declared.state_record.StateRecord.{StateRecord}
use Rattle.memberlist_view.specs.Rules.{place_of}
use Rattle.memberlist_view.specs.declared.entry.Entry.{Entry}
use Rattle.memberlist_view.specs.declared.entry.State.{State}
use Rattle.memberlist_view.specs.declared.entry.State.TheVariants as state
use Rattle.swimwatch.specs.declared.view.known.Known.{Known}

-- ---- the tags of Serf and Consul in metadata, and when two members' metadata is the same

-- a key and its value
abbrev pub Tag : Type 0
Tag = List ℕ × List ℕ

-- what was read, if it could be
abbrev pub read_or_none : {E A : Type 0} → Result A E → Option A
read_or_none (Ok read) = Some read
read_or_none (Err error) = None

-- a tag: two texts of at most 512 bytes, its key and its value
abbrev pub tag_at : Reading Tag
tag_at = do
  key ← raw_at 512
  value ← raw_at 512
  gives (key, value)

-- a tag that was read, and those read after it
abbrev pub tags_after : (List ℕ → List Tag) → Option (Tag × List ℕ) → List Tag
tags_after later None = []
tags_after later (Some read) = read.0 ∷ later read.1

-- the tags at the start of the bytes: this many, or those before the first that is not whole
abbrev pub whole_tags : ℕ → List ℕ → List Tag
whole_tags zero bytes = []
whole_tags (suc n) bytes = tags_after (whole_tags n) (read_or_none (tag_at bytes))

-- how many tags there are in metadata, the byte ff and a MessagePack map of at most 512 texts, and
-- their bytes
abbrev pub body_of : List ℕ → Option (ℕ × List ℕ)
body_of [] = None
body_of (first ∷ body) = if first == 0xff then read_or_none (count_at 512 body) else None

-- the value of a key: the first one
abbrev pub value_of : List Tag → List ℕ → Option (List ℕ)
value_of tags key = lookup (λ k. bytes_eq k key) tags

-- a value was found, and it is this one
abbrev pub is_value : List ℕ → Option (List ℕ) → Bool
is_value value None = false
is_value value (Some other) = bytes_eq other value

-- these tags have this key with this value
abbrev pub has_tag : List Tag → Tag → Bool
has_tag tags tag = is_value tag.1 (value_of tags tag.0)

-- so many tags are whole, and each of them is among the first ones
abbrev pub has_all : ℕ → List Tag → List Tag → Bool
has_all count own others = nat_eq (length others) count && list_all (has_tag own) others

-- the same of two bodies; metadata that is something else has no tags
abbrev pub has_body : Option (ℕ × List ℕ) → Option (ℕ × List ℕ) → Bool
has_body (Some own) (Some other) =
    has_all other.0 (whole_tags own.0 own.1) (whole_tags other.0 other.1)
has_body own other = false

-- all tags of the second metadata are whole, and each is in the first
abbrev pub has_tags_of : List ℕ → List ℕ → Bool
has_tags_of one other = has_body (body_of one) (body_of other)

-- the same bytes, or the same tags in some order
abbrev pub is_same_meta : List ℕ → List ℕ → Bool
is_same_meta one other =
    bytes_eq one other
    || (nat_eq (length one) (length other) && (has_tags_of one other && has_tags_of other one))

-- ---- what a view shows, and what a record says

-- the kind of claim that a state stands for: a member that was only noted or seen is alive
abbrev pub shown_kind : State → Kind
shown_kind state.Noted = kind.Alive
shown_kind state.Seen = kind.Alive
shown_kind state.Alive = kind.Alive
shown_kind (state.Suspect by) = kind.Suspect
shown_kind (state.Dead by) = kind.Confirm
shown_kind state.Left = kind.Leave

-- Serf: a member that said that it leaves, and then is dead, has left
abbrev pub with_intent : Bool → Kind → Kind
with_intent true kind.Confirm = kind.Leave
with_intent leaving other = other

-- what is known of a member that Serf has as left: its death was its leave
abbrev pub as_left : Known → Known
as_left known = record known { kind = with_intent true known.kind }

-- whether it is leaving: it said so and is alive
abbrev pub is_still_leaving : Bool → Kind → Bool
is_still_leaving true kind.Alive = true
is_still_leaving leaving other = false

-- no claim about its state was heard
abbrev pub lacks_claim : State → Bool
lacks_claim state.Noted = true
lacks_claim state.Seen = true
lacks_claim state.Alive = false
lacks_claim (state.Suspect by) = false
lacks_claim (state.Dead by) = false
lacks_claim state.Left = false

-- what a view shows of a member that Serf's intents have as leaving, or not
abbrev pub known_of_entry : Entry → Bool → Known
known_of_entry entry leaving =
    record {
      kind = with_intent leaving (shown_kind entry.state);
      inc = entry.inc;
      details = place_of entry.details entry.seen;
      unheard = record { state = lacks_claim entry.state; tags = is_none entry.details };
      leaving = is_still_leaving leaving (shown_kind entry.state);
    }

-- the first details, or else the second
abbrev pub or_else : Option DetailsValue → Option DetailsValue → Option DetailsValue
or_else (Some details) others = Some details
or_else None others = others

-- what a record of a stream says: its details are those of its claim, or else those told beside it
abbrev pub known_of_record : StateRecord → Known
known_of_record said =
    record {
      kind = kind_of said.claim;
      inc = inc_of said.claim;
      details = or_else (details_of said.claim) said.told;
      unheard = record { state = false; tags = false };
      leaving = false;
    }

-- ---- when two say the same

abbrev pub is_same_kind : Kind → Kind → Bool
is_same_kind kind.Alive kind.Alive = true
is_same_kind kind.Suspect kind.Suspect = true
is_same_kind kind.Confirm kind.Confirm = true
is_same_kind kind.Leave kind.Leave = true
is_same_kind one other = false

abbrev pub is_same_answer : Bool → Bool → Bool
is_same_answer true other = other
is_same_answer false other = not other

-- the same state at the same incarnation
abbrev pub has_state_of : Known → Known → Bool
has_state_of one other =
    (is_same_kind one.kind other.kind && is_same_answer one.leaving other.leaving)
    && nat_eq one.inc other.inc

-- the same address and port
abbrev pub is_same_place : DetailsValue → DetailsValue → Bool
is_same_place one other = bytes_eq one.addr other.addr && nat_eq one.port other.port

-- the same but for the order of the tags in the metadata
abbrev pub is_same_details : DetailsValue → DetailsValue → Bool
is_same_details one other =
    (is_same_place one other && bytes_eq one.vsn other.vsn) && is_same_meta one.meta other.meta

-- details that one of the two lacks are not compared
abbrev pub agree_on_details : Option DetailsValue → Option DetailsValue → Bool
agree_on_details (Some one) (Some other) = is_same_details one other
agree_on_details (Some one) None = true
agree_on_details None other = true

-- both say the same
abbrev pub is_same : Known → Known → Bool
is_same one other = has_state_of one other && agree_on_details one.details other.details

-- both report an address and port, and these differ
abbrev pub are_apart : Option DetailsValue → Option DetailsValue → Bool
are_apart (Some one) (Some other) = not (is_same_place one other)
are_apart (Some one) None = false
are_apart None other = false
