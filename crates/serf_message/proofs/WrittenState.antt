-- States that are written are read back.
use Rattle.std.proofs.Common.{◌≡◌, ℕ, suc, ◌+◌, ◌*◌, ◌<◌, ◌^◌, ltb, List, [], ◌∷◌, ◌++◌, length, Option, Some, None, Ok}
use Rattle.std.proofs.Common.{refl, sym, ap, ◌∙◌, append_assoc, append-nil, lit<, arith, length-append}
use Rattle.std.proofs.lemmas.Bool.{ltb-true}
use Rattle.std.specs.List.{AllByRecursion, flat_map}
use Rattle.byteorder.specs.Endian.{big_bytes}
use Rattle.swim_pack.specs.Composing.{◌>>=◌}
use Rattle.swim_pack.specs.Spelling.{raw_text, number_text}
use Rattle.serf_message.specs.declared.layout.Key.TheVariants as keys
use Rattle.serf_message.specs.Forms.{form_of, long_form_of}
use Rattle.serf_message.specs.Layouts.{state_layout, group_layout, grouped_layout}
use Rattle.serf_message.specs.Reading.{count_at, inside, outside_at, fields_at, text_at, without_rest}
use Rattle.serf_message.specs.Many.{many_at, map_len_at}
use Rattle.serf_message.specs.Slots.{Slot, Slots, no_slots}
use Rattle.serf_message.specs.States.{StatusValue, GroupedValue, GroupValue, StateValue, IsShortGrouped, IsShortGroup}
use Rattle.serf_message.specs.States.{IsTimed, IsPlaceTimed, IsStateInRange, status_at, statuses_in, grouped_at}
use Rattle.serf_message.specs.States.{group_at, place_at, state_from, state_after, state_of, status_text, statuses_text}
use Rattle.serf_message.specs.States.{names_text, grouped_text, grouped_entries, all_grouped_text, group_entries}
use Rattle.serf_message.specs.States.{place_text, places_text, state_entries, state_bytes}
use Rattle.serf_message.specs.Writing.{Spelled, Entry, entries_text, map_len_text}
use Rattle.serf_message.proofs.Again.{read, split, entry_step, fields_again, map_form, two_again, number_again}
use Rattle.serf_message.proofs.Again.{text_again, huge_again, string_again, array_again}
use Rattle.serf_message.proofs.Skipped.{ArePassed, both_passed, all_passed, each_passed, list_passed, map_passed}
use Rattle.serf_message.proofs.Skipped.{nil_passed, raw_passed, bytes_passed, number_passed, many_again, listed_again}
use Rattle.serf_message.proofs.Slotting.{no_pairs, filled}
use Rattle.serf_message.proofs.Written.{alone_again, whole_field_again}
use Rattle.serf_message.proofs.WrittenTags.{map_len_again}

-- ---- names and times

status_again : (s : StatusValue) (rest : List ℕ) → IsTimed s → status_at (status_text s ++ rest) ≡ read s rest
unfolding status_at
status_again s rest fits =
    rw (
      append_assoc (raw_text s.0) (number_text s.1) rest,
      text_again s.0 (number_text s.1 ++ rest) fits.0,
      number_again 0xffff_ffff_ffff_ffff s.1 rest (omega (arith, fits.1)) fits.1,
    ) refl

statuses_is : (whole : List ℕ) → 0 < length whole → statuses_in whole ≡ without_rest ((map_len_at >>= many_at status_at) whole)
statuses_is [] some = absurd (omega arith)
statuses_is (first ∷ rest) some = refl

some_map_len : (n : ℕ) → 0 < length (map_len_text n)
some_map_len n = split (ltb n 16) (λ (t : List ℕ). 0 < length t) ((0x80 + n) ∷ []) (0xde ∷ big_bytes 2 n)
    (λ _. omega arith) (λ _. omega arith)

statuses_again : (xs : List StatusValue) → length xs < 2 ^ 16 → AllByRecursion IsTimed xs → statuses_in (statuses_text xs) ≡ Ok xs
statuses_again xs few all =
    statuses_is (statuses_text xs) (omega (
      arith,
      some_map_len (length xs),
      length-append (map_len_text (length xs))
          (flat_map status_text xs),
    ))
    ∙ rw (map_len_again (length xs) (flat_map status_text xs) few)
    (ap (λ (t : List ℕ). without_rest (many_at status_at (length xs) t)) (sym (append-nil (flat_map status_text xs)))
    ∙ ap without_rest (many_again status_at status_text IsTimed status_again xs [] all))

map_len_outside : (n : ℕ) (rest : List ℕ) → n < 2 ^ 16 → outside_at (map_len_text n ++ rest) ≡ Ok (2 * n, rest)
unfolding outside_at inside form_of long_form_of count_at
map_len_outside n rest lt =
    split (ltb n 16) (λ (t : List ℕ). outside_at (t ++ rest) ≡ Ok (2 * n, rest)) ((0x80 + n) ∷ []) (0xde ∷ big_bytes 2 n)
    (λ e. rw (map_form n (ltb-true _ _ e)) refl) (λ _. two_outside n rest lt)
  where
    two_outside : (n : ℕ) (rest : List ℕ) → n < 2 ^ 16 → outside_at (0xde ∷ big_bytes 2 n ++ rest) ≡ Ok (2 * n, rest)
    two_outside n rest lt = let e = two_again n rest lt in rw e refl

each_status_passed : (xs : List StatusValue) → AllByRecursion IsTimed xs → ArePassed (2 * length xs) (flat_map status_text xs)
each_status_passed [] all = each_passed raw_text (λ (s : List ℕ). length s < 2 ^ 16) raw_passed [] tt
each_status_passed (x ∷ xs) all =
    let one = both_passed 1 1 (raw_text x.0) (number_text x.1) (raw_passed x.0 all.0.0) (number_passed x.1) in
    let both = both_passed 2 (2 * length xs) (status_text x) (flat_map status_text xs) one (each_status_passed xs all.1) in
    let e : 2 + 2 * length xs ≡ 2 * suc (length xs) = omega arith in
    rw e at both

statuses_passed : (xs : List StatusValue) → length xs < 2 ^ 16 → AllByRecursion IsTimed xs → ArePassed 1 (statuses_text xs)
statuses_passed xs few all =
    all_passed (2 * length xs) (map_len_text (length xs)) (flat_map status_text xs)
    (some_map_len (length xs)) (λ rest. map_len_outside (length xs) rest few)
    (each_status_passed xs all)

-- ---- events

grouped_again : (e : GroupedValue) (rest : List ℕ) → IsShortGrouped e → grouped_at (grouped_text e ++ rest) ≡ read e rest
unfolding grouped_at
grouped_again e rest fits =
    let e2 : Entry = (keys.Payload, Spelled.bytes e.1) in
    let e1 : Entry = (keys.Name, Spelled.text e.0) in
    let s1 = entry_step grouped_layout e1 (e2 ∷ []) no_slots 0 (Slot.raw e.0) rest (lit< tt) refl (lit< tt)
    (λ more. string_again _ e.0 more fits.0) in
    let s2 = entry_step grouped_layout e2 [] _ 1 (Slot.raw e.1) rest (lit< tt) refl (lit< tt) (λ more. array_again _ e.1 more fits.1) in
    let fields = fields_again grouped_layout (grouped_entries e) _ rest (lit< tt) (s1 ∙ s2 ∙ no_pairs grouped_layout 0 _ _ refl) in
    rw fields refl

grouped_passed : (e : GroupedValue) → IsShortGrouped e → ArePassed 1 (grouped_text e)
grouped_passed e fits = map_passed (grouped_entries e) (lit< tt)
    ((lit< tt, raw_passed e.0 fits.0), ((lit< tt, bytes_passed e.1 fits.1), tt))

all_grouped_passed : (g : GroupValue) → IsShortGroup g → ArePassed 1 (all_grouped_text g.events)
all_grouped_passed g fits = list_passed grouped_text IsShortGrouped grouped_passed g.events fits.1 fits.0

group_again : (g : GroupValue) (rest : List ℕ) → IsShortGroup g → g.time < 2 ^ 64
    → group_at (entries_text (group_entries g) ++ rest) ≡ read g rest
unfolding group_at
group_again g rest fits time =
    let e2 : Entry = (keys.Time, Spelled.number g.time) in
    let e1 : Entry = (keys.Events, Spelled.whole (all_grouped_text g.events)) in
    let s1 = entry_step group_layout e1 (e2 ∷ []) no_slots 1 (Slot.raw (all_grouped_text g.events)) rest (lit< tt) refl (lit< tt)
    (λ more. whole_field_again _ (all_grouped_text g.events) more (all_grouped_passed g fits)) in
    let s2 = entry_step group_layout e2 [] _ 0 (Slot.huge g.time) rest (lit< tt) refl (lit< tt) (λ more. huge_again _ g.time more time) in
    let fields = fields_again group_layout (group_entries g) _ rest (lit< tt) (s1 ∙ s2 ∙ no_pairs group_layout 0 _ _ refl) in
    rw (fields, listed_again grouped_at grouped_text IsShortGrouped grouped_again g.events fits.1 fits.0) refl

place_again : (p : Option GroupValue) (rest : List ℕ) → IsPlaceTimed p → place_at (place_text p ++ rest) ≡ read p rest
place_again None rest fits = refl
place_again (Some g) rest fits = rw (group_again g rest fits.0 fits.1) refl

place_passed : (p : Option GroupValue) → IsPlaceTimed p → ArePassed 1 (place_text p)
place_passed None fits = nil_passed
place_passed (Some g) fits =
    map_passed (group_entries g) (lit< tt) ((lit< tt, all_grouped_passed g fits.0), ((lit< tt, number_passed g.time), tt))

-- ---- the state

abbrev IsShortText : List ℕ → Type 0
IsShortText s = length s < 2 ^ 16

abbrev state_slots : StateValue → Slots
state_slots s =
    Some (Slot.huge s.time) ∷ Some (Slot.raw (statuses_text s.status_times)) ∷ Some
    (Slot.raw (names_text s.left_members)) ∷ Some (Slot.huge s.event_time)
    ∷ Some (Slot.raw (places_text s.events)) ∷ Some (Slot.huge s.query_time) ∷ None ∷ None ∷ None ∷ None ∷ None ∷ []

state_fields_again : (s : StateValue) → IsStateInRange s
    → fields_at state_layout (entries_text (state_entries s)) ≡ filled (state_slots s) []
state_fields_again s fits =
    let e6 : Entry = (keys.StatusTimes, Spelled.whole (statuses_text s.status_times)) in
    let e5 : Entry = (keys.QueryTime, Spelled.number s.query_time) in
    let e4 : Entry = (keys.LeftMembers, Spelled.whole (names_text s.left_members)) in
    let e3 : Entry = (keys.Time, Spelled.number s.time) in
    let e2 : Entry = (keys.Events, Spelled.whole (places_text s.events)) in
    let e1 : Entry = (keys.EventTime, Spelled.number s.event_time) in
    let s1 = entry_step state_layout e1 (e2 ∷ e3 ∷ e4 ∷ e5 ∷ e6 ∷ []) no_slots 3 (Slot.huge s.event_time) []
    (lit< tt) refl (lit< tt) (λ more. huge_again _ s.event_time more fits.event_time) in
    let s2 = entry_step state_layout e2 (e3 ∷ e4 ∷ e5 ∷ e6 ∷ []) _ 4 (Slot.raw (places_text s.events)) [] (lit< tt) refl (lit< tt)
    (λ more. whole_field_again _ (places_text s.events) more
    (list_passed place_text IsPlaceTimed place_passed s.events fits.each_place fits.places)) in
    let s3 = entry_step state_layout e3 (e4 ∷ e5 ∷ e6 ∷ []) _ 0 (Slot.huge s.time) [] (lit< tt) refl
    (lit< tt) (λ more. huge_again _ s.time more fits.time) in
    let s4 = entry_step state_layout e4 (e5 ∷ e6 ∷ []) _ 2 (Slot.raw (names_text s.left_members)) [] (lit< tt) refl (lit< tt)
    (λ more. whole_field_again _ (names_text s.left_members) more
    (list_passed raw_text IsShortText raw_passed s.left_members fits.left_members.1
    fits.left_members.0)) in
    let s5 = entry_step state_layout e5 (e6 ∷ []) _ 5 (Slot.huge s.query_time) [] (lit< tt) refl (lit< tt)
    (λ more. huge_again _ s.query_time more fits.query_time) in
    let s6 = entry_step state_layout e6 [] _ 1 (Slot.raw (statuses_text s.status_times)) [] (lit< tt) refl (lit< tt)
    (λ more. whole_field_again _ (statuses_text s.status_times) more (statuses_passed s.status_times fits.statuses fits.each_status)) in
    alone_again state_layout (state_entries s) (state_slots s) (lit< tt) (s1 ∙ s2 ∙ s3 ∙ s4 ∙ s5 ∙ s6 ∙ no_pairs state_layout 0 _ _ refl)

pub state_again : (s : StateValue) → IsStateInRange s → state_of (state_bytes s) ≡ Ok s
unfolding state_after state_from
state_again s fits =
    rw (
      state_fields_again s fits,
      statuses_again s.status_times fits.statuses fits.each_status,
      listed_again text_at raw_text IsShortText (λ x rest lt. text_again x rest lt) s.left_members fits.left_members.1 fits.left_members.0,
      listed_again place_at place_text IsPlaceTimed place_again s.events fits.each_place fits.places,
    ) refl
