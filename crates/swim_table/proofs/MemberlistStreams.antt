-- The dump that memberlist merges is a stream of the claims that are told, and of no others.
use Rattle.std.proofs.Common.{◌≡◌, ℕ, ◌≤◌, Bool, List, [], ◌∷◌, ◌++◌, length, All, Contains, Option, Some, None, true}
use Rattle.std.proofs.Common.{false, nat_lt, inl, inr, refl, sym, ap, subst, append_assoc, if◌then◌else◌, arith}
use Rattle.std.proofs.lemmas.List.Elements.{All-head, All-tail, All-weaker, All-contains, All-contains_itself}
use Rattle.std.proofs.lemmas.List.Elements.{Contains-append_left, Contains-append_right, Contains-append_cases}
use Rattle.std.proofs.lemmas.Bool.Decides.{nat_tests}
use Rattle.std.specs.List.{flat_map}
use Rattle.swim_claim.specs.declared.claim.Claim.{Claim}
use Rattle.swim_claim.specs.declared.claim.Claim.TheVariants.{Alive, Suspect, Confirm, Leave}
use Rattle.swim_claim.specs.Claim.{details_of, inc_of, IsLegalClaim}
use Rattle.swim_claim.specs.Details.{DetailsValue}
use Rattle.swim_wire.specs.declared.stream.Header.{Header}
use Rattle.swim_wire.specs.Canonical.{header_bytes, state_bytes_with}
use Rattle.swim_wire.specs.Pairs.{details_or_none}
use Rattle.swim_wire.specs.Streams.{StateTexts, StreamText}
use Rattle.swim_wire.specs.Streams.StateTexts.{none, one}
use Rattle.swim_wire.proofs.OneStream.{one_stream}
use Rattle.swim_wire.proofs.SpelledTexts.{Fits, Fits-legal, Fits-none, HeaderText-canonical, StateText-beside}
use Rattle.swim_wire.specs.Limits.{max_nodes, max_user_state_len}
use Rattle.swim_table.specs.MemberlistDump.{are_versions, details_at, later, told_at, told, told_of, home_details}
use Rattle.swim_table.specs.MemberlistDump.{entry_bytes, memberlist_dump_bytes}
use Rattle.swim_table.specs.Standing.{Standing}
use Rattle.swim_table.specs.Table.{Entries, Reduced, IsLegalTable, beside_home, kept}

-- ---- an entry

-- what is told of a member whose newest Alive has these details
pub told_home : (entry : Standing) (home : Claim) (details : DetailsValue) → entry.home ≡ Some home → details_of home ≡ Some details
    → (home_details entry ≡ details) × (told entry ≡ (if are_versions details.vsn then later entry.top home ∷ [] else []))
told_home entry home details is known =
    let same : details_at (Some home) ≡ details = ap details_or_none known in
    let here : details_at entry.home ≡ details = subst (λ o. details_at o ≡ details) (sym is) same in
    let list : told_at entry.top (Some home) ≡ (if are_versions details.vsn then later entry.top home ∷ [] else []) =
    ap (λ (d : DetailsValue). if are_versions d.vsn then later entry.top home ∷ [] else []) same in
    (here, subst (λ o. told_at entry.top o ≡ (if are_versions details.vsn then later entry.top home ∷ [] else [])) (sym is) list)

-- what is told is kept
later_within : (top home c : Claim) → Contains (later top home ∷ []) c → Contains (kept (record { top = top; home = Some home })) c
later_within (Alive name inc details) home c at = at
later_within (Suspect name inc) home c at = by_test (nat_lt inc (inc_of home)) at
  where
    by_test : (b : Bool) → Contains ((if b then home else Suspect name inc) ∷ []) c → Contains (home ∷ Suspect name inc ∷ []) c
    by_test true at = Contains-append_left (home ∷ []) (Suspect name inc ∷ []) c at
    by_test false at = Contains-append_right (home ∷ []) (Suspect name inc ∷ []) c at
later_within (Confirm name inc) home c at = by_test (nat_lt inc (inc_of home)) at
  where
    by_test : (b : Bool) → Contains ((if b then home else Confirm name inc) ∷ []) c → Contains (home ∷ Confirm name inc ∷ []) c
    by_test true at = Contains-append_left (home ∷ []) (Confirm name inc ∷ []) c at
    by_test false at = Contains-append_right (home ∷ []) (Confirm name inc ∷ []) c at
later_within (Leave name inc) home c at = by_test (nat_lt inc (inc_of home)) at
  where
    by_test : (b : Bool) → Contains ((if b then home else Leave name inc) ∷ []) c → Contains (home ∷ Leave name inc ∷ []) c
    by_test true at = Contains-append_left (home ∷ []) (Leave name inc ∷ []) c at
    by_test false at = Contains-append_right (home ∷ []) (Leave name inc ∷ []) c at

told_within : (top : Claim) (home : Option Claim) (c : Claim) → Contains (told_at top home) c
    → Contains (kept (record { top = top; home = home })) c
told_within top None c at = absurd (omega (arith, at.1))
told_within top (Some home) c at = by_versions (are_versions (details_at (Some home)).vsn) at
  where
    by_versions : (b : Bool) → Contains (if b then later top home ∷ [] else []) c
        → Contains (kept (record { top = top; home = Some home })) c
    by_versions true at = later_within top home c at
    by_versions false at = absurd (omega (arith, at.1))

pub one_told : (entry : Standing) → length (told entry) ≤ 1
one_told entry = by_home entry.home
  where
    by_versions : (b : Bool) (c : Claim) → length (if b then c ∷ [] else []) ≤ 1
    by_versions true c = omega arith
    by_versions false c = omega arith

    by_home : (home : Option Claim) → length (told_at entry.top home) ≤ 1
    by_home None = omega arith
    by_home (Some home) = by_versions (are_versions (details_at (Some home)).vsn) (later entry.top home)

pub told_if_sound : (top home : Claim) → are_versions (details_at (Some home)).vsn ≡ true
    → told (record { top = top; home = Some home }) ≡ later top home ∷ []
told_if_sound top home sound = ap (λ b. if b then later top home ∷ [] else []) sound

pub latest : (top home : Claim) → (inc_of home ≤ inc_of (later top home))
    × (beside_home top ≡ top ∷ [] → inc_of top ≤ inc_of (later top home))
latest (Alive name inc details) home = (omega arith, λ none. absurd (omega (arith, ap length none)))
latest (Suspect name inc) home = by_test (nat_lt inc (inc_of home)) refl
  where
    by_test : (b : Bool) → nat_lt inc (inc_of home) ≡ b → (inc_of home ≤ inc_of (if b then home else Suspect name inc))
        × (beside_home (Suspect name inc) ≡ Suspect name inc ∷ [] → inc ≤ inc_of (if b then home else Suspect name inc))
    by_test true is = (omega arith, λ _. grind (arith, nat_tests))
    by_test false is = (grind (arith, nat_tests), λ _. omega arith)
latest (Confirm name inc) home = by_test (nat_lt inc (inc_of home)) refl
  where
    by_test : (b : Bool) → nat_lt inc (inc_of home) ≡ b → (inc_of home ≤ inc_of (if b then home else Confirm name inc))
        × (beside_home (Confirm name inc) ≡ Confirm name inc ∷ [] → inc ≤ inc_of (if b then home else Confirm name inc))
    by_test true is = (omega arith, λ _. grind (arith, nat_tests))
    by_test false is = (grind (arith, nat_tests), λ _. omega arith)
latest (Leave name inc) home = by_test (nat_lt inc (inc_of home)) refl
  where
    by_test : (b : Bool) → nat_lt inc (inc_of home) ≡ b → (inc_of home ≤ inc_of (if b then home else Leave name inc))
        × (beside_home (Leave name inc) ≡ Leave name inc ∷ [] → inc ≤ inc_of (if b then home else Leave name inc))
    by_test true is = (omega arith, λ _. grind (arith, nat_tests))
    by_test false is = (grind (arith, nat_tests), λ _. omega arith)

-- ---- a table

pub told_of_within : (table : Entries) (c : Claim) → Contains (told_of table) c → Contains (Reduced table) c
told_of_within [] c at = at
told_of_within (entry ∷ rest) c at = elim (Contains-append_cases (told entry) (told_of rest) c at) [
  | inl here ↦ Contains-append_left (kept entry) (Reduced rest) c (told_within entry.top entry.home c here)
  | inr after ↦ Contains-append_right (kept entry) (Reduced rest) c (told_of_within rest c after)
]

-- ---- its records

-- records with other details are the texts of their claims
StateTexts-beside : (details : DetailsValue) (claims : List Claim) → Fits details → All IsLegalClaim claims → StateTexts
    (flat_map (state_bytes_with details) claims) claims
StateTexts-beside details [] fits legal = none
StateTexts-beside details (c ∷ claims) fits legal =
    one (state_bytes_with details c) (flat_map (state_bytes_with details) claims) c claims
    (StateText-beside c details (All-head IsLegalClaim c claims legal) fits)
    (StateTexts-beside details claims fits (All-tail IsLegalClaim c claims legal))

StateTexts-append : (a b : List ℕ) (claims others : List Claim) → StateTexts a claims → StateTexts b others
    → StateTexts (a ++ b) (claims ++ others)
StateTexts-append _ b _ others none texts = texts
StateTexts-append _ b _ others (one a rest c claims first more) texts =
    subst (λ (r : List ℕ). StateTexts r (c ∷ claims ++ others)) (sym (append_assoc a rest b))
    (one a (rest ++ b) c (claims ++ others) first (StateTexts-append rest b claims others more texts))

Fits-home : (home : Claim) → IsLegalClaim home → Fits (details_or_none (details_of home))
Fits-home (Alive name inc details) legal = Fits-legal details legal.details
Fits-home (Suspect name inc) legal = Fits-none
Fits-home (Confirm name inc) legal = Fits-none
Fits-home (Leave name inc) legal = Fits-none

fits : (top : Claim) (home : Option Claim) → All IsLegalClaim (kept (record { top = top; home = home })) → Fits (details_at home)
fits top None legal = Fits-none
fits top (Some home) legal =
    let entry : Standing = record { top = top; home = Some home } in
    Fits-home home (All-contains IsLegalClaim (kept entry) home legal (0, omega arith, refl))

-- what holds for all elements of a list holds for those of a part of it
All-part : (xs ys : List Claim) → ((c : Claim) → Contains xs c → Contains ys c) → All IsLegalClaim ys → All IsLegalClaim xs
All-part xs ys within all = All-weaker (Contains xs) IsLegalClaim
    (λ c at. All-contains IsLegalClaim ys c all (within c at)) xs (All-contains_itself xs)

entry_texts : (entry : Standing) → All IsLegalClaim (kept entry) → StateTexts (entry_bytes entry) (told entry)
entry_texts entry legal =
    StateTexts-beside (home_details entry) (told entry) (fits entry.top entry.home legal)
    (All-part (told entry) (kept entry) (told_within entry.top entry.home) legal)

table_texts : (table : Entries) → All IsLegalClaim (Reduced table) → StateTexts (flat_map entry_bytes table) (told_of table)
table_texts [] legal = none
table_texts (entry ∷ rest) legal =
    StateTexts-append (entry_bytes entry) (flat_map entry_bytes rest) (told entry) (told_of rest)
    (entry_texts entry (All-part (kept entry) (Reduced (entry ∷ rest)) (Contains-append_left (kept entry) (Reduced rest)) legal))
    (table_texts rest (All-part (Reduced rest) (Reduced (entry ∷ rest)) (Contains-append_right (kept entry) (Reduced rest)) legal))

-- ---- the stream

-- the header of the dump
abbrev memberlist_header : Entries → Bool → List ℕ → Header
memberlist_header table join user = record { nodes = length (told_of table); user_len = length user; join = join }

pub memberlist_dump_is_stream : (table : Entries) (join : Bool) (user : List ℕ) → IsLegalTable table → length (told_of table) ≤ max_nodes
    → length user ≤ max_user_state_len → StreamText (memberlist_dump_bytes table join user) (told_of table) join
memberlist_dump_is_stream table join user legal few short = record {
  header = memberlist_header table join user;
  head = header_bytes (memberlist_header table join user);
  records = flat_map entry_bytes table;
  user = user;
  bytes = refl;
  head_text = HeaderText-canonical (memberlist_header table join user) few short;
  flag = refl;
  nodes = refl;
  record_texts = table_texts table legal.claims;
  user_len = refl;
}

-- a stream text of the dump has its claims and its flag
pub memberlist_dump_claims : (table : Entries) (join flag : Bool) (user : List ℕ) (claims : List Claim)
    → IsLegalTable table → length (told_of table) ≤ max_nodes
    → length user ≤ max_user_state_len → StreamText (memberlist_dump_bytes table join user) claims flag
    → (claims ≡ told_of table) × (flag ≡ join)
memberlist_dump_claims table join flag user claims legal few short text =
    let bytes = memberlist_dump_bytes table join user in
    let same = one_stream bytes bytes [] [] claims (told_of table) flag join text
    (memberlist_dump_is_stream table join user legal few short) refl in
    (same.1, same.2)
