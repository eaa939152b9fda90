-- Records that are next, one after the other.
use Rattle.std.proofs.Common.{◌≡◌, ◌⊎◌, ◌<◌, ◌≤◌, ◌+◌, ◌-◌, ◌^◌, ℕ, Bool, true, false, Option, Some, None, IfNone, IsSome, is_some, Result, Ok, Err, OnOk, IfOk, List, [], ◌∷◌, ◌++◌, Contains, length, slice_get, slice_index_or, slice_set, Bor, inl, inr, refl, sym, ap, ap₂, subst, arith, rules, ◌∙◌}
use Rattle.std.specs.Slice.{IsItemAt}
use Rattle.std.proofs.lemmas.List.{length_push}
use Rattle.std.proofs.lemmas.Option.{slice_get_past, slice_get_read}
use Rattle.capture.specs.Pcap.{RecordText}
use Rattle.swimwatch.specs.declared.input.sources.Source.{Source}
use Rattle.swimwatch.specs.declared.input.sources.Sources.{Sources}
use Rattle.swimwatch.specs.declared.input.turns.Turn.{Turn}
use Rattle.swimwatch.specs.Turns.{IsFirst, IsNotAfter}
use Rattle.swimwatch.specs.declared.listening.views.Views.{Views}
use Rattle.swimwatch.specs.declared.text.window.Window.{Window}
use Rattle.swimwatch.specs.Seated.{put}
use Rattle.swimwatch.specs.Yielded.{AreHeard, HasNoNext, HearsOne, HearsSources, IsLate, IsNext, IsOpenAt, IsReady, Open}
use Rattle.swimwatch.specs.Yielded.HearsSources.{one_more}

-- no turn stands both before and after another one
one_turn : (a b : Turn) → IsNotAfter a b → IsNotAfter b a → a ≡ b
one_turn a b (inl before) (inl after) = absurd (omega (arith, before, after))
one_turn a b (inl before) (inr after) = absurd (omega (arith, before, after.0))
one_turn a b (inr before) (inl after) = absurd (omega (arith, before.0, after))
one_turn a b (inr before) (inr after) =
    let place : a.place ≡ b.place = omega (arith, before.1, after.1) in
    ap₂ (λ t p. record { time = t; place = p }) before.0 place

pub first_same : (turns : List Turn) (a b : Turn) → IsFirst turns a → IsFirst turns b → a ≡ b
first_same turns a b first other = one_turn a b (first.1 b other.0) (other.1 a first.0)

none_in : {T : Type 0} (x : T) → Contains [] x → ⊥
none_in x has = absurd (omega (arith, has.1))

pub no_turn : (sources : Sources) → sources.turns.waiting.keys ≡ [] → HasNoNext sources
no_turn sources empty place r next =
    none_in next.0 (subst (λ l. Contains l next.0) empty next.1.0)

-- the capture of the first turn
pub open_at : (sources : Sources) (turn : Turn) (place : ℕ) (r : RecordText) → IsFirst sources.turns.waiting.keys turn
    → IsNext sources place r → (reading : Open) × IsOpenAt sources.all.items turn.place reading
open_at sources turn place r first (other, is, at, reading, has, same) =
    let one : other ≡ turn = first_same sources.turns.waiting.keys other turn is first in
    (reading, subst (λ p. IsOpenAt sources.all.items p reading) (sym at ∙ ap (λ t. t.place) one) has)

pub no_capture : (sources : Sources) (turn : Turn) → IsFirst sources.turns.waiting.keys turn
    → slice_get sources.all.items turn.place ≡ None → HasNoNext sources
no_capture sources turn first none place r next =
    let found = open_at sources turn place r first next in
    absurd (cc (none, found.1.1))

pub not_open : (sources : Sources) (turn : Turn) (source : Source) → IsFirst sources.turns.waiting.keys turn
    → slice_get sources.all.items turn.place ≡ Some source → source.reading ≡ None → HasNoNext sources
not_open sources turn source first at closed place r next =
    let found = open_at sources turn place r first next in
    absurd (cc (at, closed, found.1.1, found.1.2))

-- the record that is next is that of the first turn
pub at_place : (sources : Sources) (turn : Turn) (place other : ℕ) (r : RecordText) → IsFirst sources.turns.waiting.keys turn
    → turn.place ≡ place → IsNext sources other r → IsNext sources place r
at_place sources turn place other r first at (t, is, stands, reading, has, made) =
    let one : t ≡ turn = first_same sources.turns.waiting.keys t turn is first in
    let same : other ≡ place = sym stands ∙ ap (λ x. x.place) one ∙ at in
    subst (λ p. IsNext sources p r) same (t, is, stands, reading, has, made)

-- ---- captures by their index

pub lent : {X : Type 0} (xs ys : List X) (i : ℕ) (r : Option (Bor X)) (x : Bor X) → IsItemAt ys i r → r ≡ Some x → ys ≡ xs
    → slice_get xs i ≡ Some x.now
lent xs ys i r x item is same =
    let k = subst (λ o. IsItemAt ys i o) is item in
    subst (λ l. slice_get l i ≡ Some x.now) same (slice_get_read ys (length ys) i x.now refl k.3.0 k.1)

pub absent : {X : Type 0} (xs ys : List X) (i : ℕ) (r : Option (Bor X)) → IsItemAt ys i r → r ≡ None → ys ≡ xs
    → slice_get xs i ≡ None
absent xs ys i r item is same =
    let k = subst (λ o. IsItemAt ys i o) is item in
    subst (λ l. slice_get l i ≡ None) same (slice_get_past ys i k.3)

pub none_is : {X : Type 0} (o : Option X) → is_some o ≡ false → o ≡ None
none_is None is = refl
none_is (Some x) is = absurd (cc (is))

pub is_ready : (sources : Sources) (turn : Turn) (source : Source) → IsFirst sources.turns.waiting.keys turn
    → slice_get sources.all.items turn.place ≡ Some source → is_some source.reading ≡ true → IsReady sources
is_ready sources turn source first at has other one is stands =
    let same : other ≡ turn = first_same sources.turns.waiting.keys other turn is first in
    let there : slice_get sources.all.items turn.place ≡ Some one = subst (λ t. slice_get sources.all.items t.place ≡ Some one) same stands in
    let same_one : source ≡ one = cc (at, there) in
    subst (λ s. is_some s.reading ≡ true) same_one has

pub is_ready_past : (sources : Sources) (turn : Turn) → IsFirst sources.turns.waiting.keys turn
    → slice_get sources.all.items turn.place ≡ None → IsReady sources
is_ready_past sources turn first past other one is stands =
    let same : other ≡ turn = first_same sources.turns.waiting.keys other turn is first in
    let there : slice_get sources.all.items turn.place ≡ Some one = subst (λ t. slice_get sources.all.items t.place ≡ Some one) same stands in
    absurd (cc (past, there))

pub is_ready_over : (sources : Sources) → sources.turns.waiting.keys ≡ [] → IsReady sources
is_ready_over sources empty other one is stands = absurd (none_in other (subst (λ l. Contains l other) empty is.0))

-- ---- one record more

pub reads_more : (window other : Window) (until : ℕ) (old : Sources) (heard : List (List RecordText)) (read : List (ℕ × RecordText))
    (mid : Sources) (before : List (List RecordText)) (new : Sources) (views : Views) (n : ℕ) → other ≡ window → length read ≡ n
    → HearsSources window until old heard read mid before → HearsOne other until mid before new views
    → (more : List (ℕ × RecordText)) × (now : List (List RecordText)) × (length more ≡ n + 1)
    × HearsSources window until old heard more new now × AreHeard views now
reads_more window other until old heard read mid before new views n same len hears (place, r, view, next, late, moves, each) = (
  read ++ (place, r) ∷ [],
  put before view r,
  omega (arith, length_push read (place, r), len),
  one_more read mid before place r view new hears next (subst (λ w. IsLate w until r.0 → ⊥) same late) moves,
  each,
)
