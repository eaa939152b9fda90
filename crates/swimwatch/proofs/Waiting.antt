-- Captures that wait for their turns, and are not forgotten.
use Rattle.std.proofs.Common.{◌≡◌, ◌≢◌, ◌⊎◌, ◌+◌, ℕ, zero, suc, Bool, true, false, Option, Some, None, Result, Ok, Err, is_ok, is_err, List, [], ◌∷◌, ◌++◌, Contains, length, slice_get, slice_set, inl, inr, refl, sym, ap, subst, arith, ◌∙◌}
use Rattle.std.specs.Bool.{if◌then◌else◌}
use Rattle.std.proofs.lemmas.Map.Made.{Contains-tail}
use Rattle.capture.specs.Pcap.{RecordText}
use Rattle.swimwatch.specs.declared.input.sources.Source.{Source}
use Rattle.swimwatch.specs.declared.input.sources.Sources.{Sources}
use Rattle.swimwatch.specs.declared.input.turns.Turn.{Turn}
use Rattle.swimwatch.specs.declared.text.window.Window.{Window}
use Rattle.swimwatch.specs.Yielded.{AllWait, GoesOn, HasAlso, HasTurn, HearsSources, IsReady, ReadsOn, OpensFirst, Opens, ReadsAt, Waits, turn_at}
use Rattle.swimwatch.specs.Yielded.HearsSources.{none, one_more}

pub of_ok : {T E X : Type 0} (r : Result T E) (x a b : X) → is_err r ≡ false → x ≡ (if is_ok r then a else b) → x ≡ a
of_ok (Ok v) x a b is e = e
of_ok (Err v) x a b is e = absurd (cc (is))

-- ---- lists

next_place : {X : Type 0} (k i : ℕ) (x y : X) (P : Type 0) → ((k ≡ i) × (x ≡ y)) ⊎ ((k ≢ i) × P)
    → ((suc k ≡ suc i) × (x ≡ y)) ⊎ ((suc k ≢ suc i) × P)
next_place k i x y P (inl (at, is)) = inl (ap suc at, is)
next_place k i x y P (inr (other, p)) = inr ((λ e. other (omega (arith, e))), p)

set_at : {X : Type 0} (xs : List X) (i k : ℕ) (y x : X) → slice_get (slice_set xs i y) k ≡ Some x
    → ((k ≡ i) × (x ≡ y)) ⊎ ((k ≢ i) × (slice_get xs k ≡ Some x))
set_at [] i k y x e = absurd (cc (e))
set_at (z ∷ zs) zero zero y x e = inl (refl, cc (e))
set_at (z ∷ zs) zero (suc k) y x e = inr ((λ q. absurd (omega (arith, q))), e)
set_at (z ∷ zs) (suc i) zero y x e = inr ((λ q. absurd (omega (arith, q))), e)
set_at (z ∷ zs) (suc i) (suc k) y x e = next_place k i x y (slice_get zs k ≡ Some x) (set_at zs i k y x e)

next_last : {X : Type 0} (k n : ℕ) (x y : X) (P : Type 0) → ((k ≡ n) × (x ≡ y)) ⊎ P → ((suc k ≡ suc n) × (x ≡ y)) ⊎ P
next_last k n x y P (inl (at, is)) = inl (ap suc at, is)
next_last k n x y P (inr p) = inr p

pushed_at : {X : Type 0} (xs : List X) (k : ℕ) (y x : X) → slice_get (xs ++ y ∷ []) k ≡ Some x
    → ((k ≡ length xs) × (x ≡ y)) ⊎ (slice_get xs k ≡ Some x)
pushed_at [] zero y x e = inl (refl, cc (e))
pushed_at [] (suc k) y x e = absurd (cc (e))
pushed_at (z ∷ zs) zero y x e = inr e
pushed_at (z ∷ zs) (suc k) y x e = next_last k (length zs) x y (slice_get zs k ≡ Some x) (pushed_at zs k y x e)

-- ---- one capture

abbrev IsWaiting : List Turn → ℕ → Source → Type 0
IsWaiting turns place source = (source.is_done ≡ true) ⊎ HasTurn turns place

-- its turns stay
still : (old new : List Turn) (place : ℕ) (source : Source) → ((turn : Turn) → turn.place ≡ place → Contains old turn → Contains new turn)
    → IsWaiting old place source → IsWaiting new place source
still old new place source stays (inl done) = inl done
still old new place source stays (inr (turn, has, at)) = inr (turn, stays turn at has, at)

like : (turns : List Turn) (place other : ℕ) (source was : Source) → other ≡ place → source.is_done ≡ was.is_done
    → IsWaiting turns place was → IsWaiting turns other source
like turns place other source was at done (inl is) = inl (done ∙ is)
like turns place other source was at done (inr (turn, has, stands)) = inr (turn, has, stands ∙ sym at)

-- ---- opening one

opened_one : (old new : Sources) (turn : Turn) (was now : Source) (place : ℕ) (source : Source)
    → slice_get old.all.items turn.place ≡ Some was → now.is_done ≡ was.is_done → AllWait old
    → ((place ≡ turn.place) × (source ≡ now)) ⊎ ((place ≢ turn.place) × (slice_get old.all.items place ≡ Some source))
    → IsWaiting old.turns.waiting.keys place source
opened_one old new turn was now place source there done all (inl (at, is)) =
    like old.turns.waiting.keys turn.place place source was at (ap (λ s. s.is_done) is ∙ done) (all turn.place was there)
opened_one old new turn was now place source there done all (inr (other, at)) = all place source at

opened_first : (old new : Sources) → new.turns ≡ old.turns
    → ((IsReady old × (new.all.items ≡ old.all.items)) ⊎ OpensFirst old new) → AllWait old → AllWait new
opened_first old new turns (inl (ready, same)) all place source at =
    subst (λ t. IsWaiting t.waiting.keys place source) (sym turns)
    (all place source (subst (λ l. slice_get l place ≡ Some source) same at))
opened_first old new turns (inr (turn, was, now, first, there, closed, made, (word, done, begins))) all place source at =
    subst (λ t. IsWaiting t.waiting.keys place source) (sym turns)
    (opened_one old new turn was now place source there done all
    (set_at old.all.items turn.place place now source (subst (λ l. slice_get l place ≡ Some source) made at)))

pub opened : (old new : Sources) → Opens old new → AllWait old → AllWait new
opened old new (turns, live, opens) all = opened_first old new turns opens all

-- ---- reading on

own : (place : ℕ) (time : Option ℕ) (left now : List Turn) (was is : Source) → GoesOn was is time → Waits place time left now
    → IsWaiting now place is
own place None left now was is goes waits = inl goes.2
own place (Some time) left now was is goes waits =
    inr (turn_at time place, (waits (turn_at time place)).1 (inl refl), refl)

others : (place : ℕ) (time : Option ℕ) (left now : List Turn) (turn : Turn) → Waits place time left now → Contains left turn
    → Contains now turn
others place None left now turn waits has = subst (λ l. Contains l turn) (sym waits) has
others place (Some time) left now turn waits has = (waits turn).1 (inr has)

read_one : (old mid : Sources) (turn : Turn) (left : List Turn) (time : Option ℕ) (was now : Source) (place : ℕ) (source : Source)
    → old.turns.waiting.keys ≡ turn ∷ left → GoesOn was now time → Waits turn.place time left mid.turns.waiting.keys → AllWait old
    → ((place ≡ turn.place) × (source ≡ now)) ⊎ ((place ≢ turn.place) × (slice_get old.all.items place ≡ Some source))
    → IsWaiting mid.turns.waiting.keys place source
read_one old mid turn left time was now place source removal goes waits all (inl (at, is)) =
    like mid.turns.waiting.keys turn.place place source now at (ap (λ s. s.is_done) is)
    (own turn.place time left mid.turns.waiting.keys was now goes waits)
read_one old mid turn left time was now place source removal goes waits all (inr (other, at)) =
    still old.turns.waiting.keys mid.turns.waiting.keys place source
    (λ t stands has. others turn.place time left mid.turns.waiting.keys t waits
    (Contains-tail turn left t (λ same. other (sym stands ∙ ap (λ x. x.place) (sym same)))
    (subst (λ l. Contains l t) removal has)))
    (all place source at)

pub moved : (old new : Sources) → ReadsOn old new → AllWait old → AllWait new
moved old new (turn, left, time, mid, first, removal, (was, now, there, made, word, goes), waits, live, (turns, alive, opens)) all =
    opened_first mid new turns opens
    (λ place source at. read_one old mid turn left time was now place source removal goes waits all
    (set_at old.all.items turn.place place now source (subst (λ l. slice_get l place ≡ Some source) made at)))

pub all_wait : (window : Window) (until : ℕ) (old : Sources) (heard : List (List RecordText)) (read : List (ℕ × RecordText)) (new : Sources)
    (now : List (List RecordText)) → HearsSources window until old heard read new now → AllWait old → AllWait new
all_wait window until old heard _ _ _ none all = all
all_wait window until old heard _ new _ (one_more read mid before place r view _ hears next late moves) all =
    moved mid new moves (all_wait window until old heard read mid before hears all)

-- ---- one capture more

added_one : (old : Sources) (now : List Turn) (last : Source) (time place : ℕ) (source : Source)
    → HasAlso (turn_at time (length old.all.items)) old.turns.waiting.keys now → AllWait old
    → ((place ≡ length old.all.items) × (source ≡ last)) ⊎ (slice_get old.all.items place ≡ Some source)
    → IsWaiting now place source
added_one old now last time place source also all (inl (at, is)) =
    inr (turn_at time (length old.all.items), (also (turn_at time (length old.all.items))).1 (inl refl), sym at)
added_one old now last time place source also all (inr at) =
    still old.turns.waiting.keys now place source (λ turn stands has. (also turn).1 (inr has)) (all place source at)

pub added : (old new : Sources) (last : Source) (time : ℕ) → HasAlso (turn_at time (length old.all.items)) old.turns.waiting.keys new.turns.waiting.keys
    → new.all.items ≡ old.all.items ++ last ∷ [] → AllWait old → AllWait new
added old new last time also made all place source at =
    added_one old new.turns.waiting.keys last time place source also all
    (pushed_at old.all.items place last source (subst (λ l. slice_get l place ≡ Some source) made at))

pub none_waits : (sources : Sources) → sources.all.items ≡ [] → AllWait sources
none_waits sources empty place source at =
    absurd (cc (subst (λ l. slice_get l place ≡ Some source) empty at))
