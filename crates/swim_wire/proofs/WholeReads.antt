-- Reads of a map, and then the check of its fields as a whole.
use Rattle.std.proofs.Common.{◌≡◌, ◌≢◌, ℕ, inl, inr, false, List, Option, Result, Ok, Err, refl, sym, subst, ◌∙◌, arith}
use Rattle.std.proofs.Common.{if◌then◌else◌, ◌==◌}
use Rattle.std.proofs.lemmas.Result.{err_from_is_err_and}
use Rattle.std.specs.Prelude.{IsErrAnd}
use Rattle.std.specs.Result.{result_map_both}
use Rattle.std.proofs.lemmas.Bool.Decides.{nat_tests}
use Rattle.swim_pack.specs.Ends.{Source}
use Rattle.swim_pack.specs.Composing.{ReadsAs, same, refuses, ◌>>=◌}
use Rattle.swim_pack.specs.Composing.Cause.{by_bytes}
use Rattle.swim_pack.proofs.Composing.{Reads-then, Reads-exit, Reads-gives, Reads-refuses, Reads-memory}
use Rattle.swim_wire.specs.declared.fault.WireFault.{WireFault}
use Rattle.swim_wire.specs.declared.fault.WireFault.TheVariants.{WrongType}
use Rattle.swim_wire.specs.declared.map.Value.{Value}
use Rattle.swim_wire.specs.Reading.{Reading, Slots, wire_cause, checked, AnswersUnlessMemory}
use Rattle.swim_wire.specs.Slots.{slots_of}
use Rattle.swim_wire.proofs.Claimed.{IsCheck, err, memory_cause}

-- the exit of a `?` at the first of two readings
pub Reads-exits : {X Y V W : Type 0} {view : X → V} {seen : Y → W} {first : Reading V} {a b : Source} {error : WireFault}
    (next : V → Reading W) (r : Result Y WireFault) → IsErrAnd r (λ y. y ≡ error) → ReadsAs {X = X} wire_cause view first a b (Err error)
    → ReadsAs wire_cause seen (first >>= next) a b r
Reads-exits next r exits h =
    let p = err_from_is_err_and r exits in
    rw (p.1, p.2) (Reads-exit next h)

-- a map, and then a check that passes
Reads-passed : {A : Type 0} {a b : Source} {values : List (Option Value)} (reading : Reading Slots) (f : Slots → Result A WireFault) (x : A)
    → f (slots_of values) ≡ Ok x → ReadsAs wire_cause slots_of reading a b (Ok values)
    → ReadsAs wire_cause same (reading >>= (λ slots. checked (f slots))) a b (Ok x)
Reads-passed {A} {a} {b} {values} reading f x passed p =
    let given : ReadsAs wire_cause same (checked (f (slots_of values))) b b (Ok x) = rw passed (Reads-gives {view = same} x) in
    Reads-then (λ slots. checked (f slots)) p given

-- a map, and then a check that fails
Reads-failed : {A : Type 0} {a b : Source} {values : List (Option Value)} (reading : Reading Slots)
    (f : Slots → Result A WireFault) (error : WireFault)
    → wire_cause error ≡ by_bytes → f (slots_of values) ≡ Err error → ReadsAs wire_cause slots_of reading a b (Ok values)
    → ReadsAs {X = A} wire_cause same (reading >>= (λ slots. checked (f slots))) a b (Err error)
Reads-failed {A} {a} {b} {values} reading f error is failed p =
    let refused : ReadsAs {X = A} wire_cause same (checked (f (slots_of values))) b b (Err error) = rw failed (Reads-refuses error is) in
    Reads-then (λ slots. checked (f slots)) p refused

-- a map, and then the check of a message's fields, with its own slots in place of those of the map
pub Reads-checked : {A : Type 0} {a b : Source} {values : List (Option Value)} (reading : Reading Slots) (f : Slots → Result A WireFault)
    (own : Slots) (r : Result A WireFault) → f own ≡ f (slots_of values) → IsCheck (f own) → AnswersUnlessMemory (f own) r
    → ReadsAs wire_cause slots_of reading a b (Ok values) → ReadsAs wire_cause same (reading >>= (λ slots. checked (f slots))) a b r
Reads-checked reading f own (Ok x) is check (inl e) p = Reads-passed reading f x (sym is ∙ sym e) p
Reads-checked reading f own (Ok x) is check (inr e) p = absurd cc
Reads-checked {A} reading f own (Err error) is check (inl e) p =
    let caused : IsCheck (err A error) = subst (λ (w : Result A WireFault). IsCheck w) (sym e) check in
    Reads-failed reading f error caused.by (sym is ∙ sym e) p
Reads-checked reading f own (Err error) is check (inr e) p = Reads-memory _ error (memory_cause error e) p

-- the same, of which a view is asked
pub Reads-viewed : {X A : Type 0} {a b : Source} {values : List (Option Value)} (view : X → A) (reading : Reading Slots)
    (f : Slots → Result A WireFault) (own : Slots) (r : Result X WireFault) → f own ≡ f (slots_of values) → IsCheck (f own)
    → AnswersUnlessMemory (f own) (result_map_both view (λ fault. fault) r)
    → ReadsAs wire_cause slots_of reading a b (Ok values) → ReadsAs wire_cause view (reading >>= (λ slots. checked (f slots))) a b r
Reads-viewed {X} {A} {a} {b} {values} view reading f own (Ok x) is check (inl e) p =
    let passed : f (slots_of values) ≡ Ok (view x) = sym is ∙ sym e in
    let given : ReadsAs wire_cause view (checked (f (slots_of values))) b b (Ok x) = rw passed (Reads-gives {view = view} x) in
    Reads-then (λ slots. checked (f slots)) p given
Reads-viewed view reading f own (Ok x) is check (inr e) p = absurd cc
Reads-viewed {X} {A} {a} {b} {values} view reading f own (Err error) is check (inl e) p =
    let caused : IsCheck (err A error) = subst (λ (w : Result A WireFault). IsCheck w) (sym e) check in
    let failed : f (slots_of values) ≡ Err error = sym is ∙ sym e in
    let refused : ReadsAs {X = X} wire_cause view (checked (f (slots_of values))) b b (Err error) = rw failed
    (Reads-refuses error caused.by) in
    Reads-then (λ slots. checked (f slots)) p refused
Reads-viewed {X} view reading f own (Err error) is check (inr e) p = Reads-memory _ error (memory_cause {A = X} error cc) p

-- ---- headers

-- another type byte
pub Reads-wrong_type : {X V : Type 0} {view : X → V} {a : Source} (found : ℕ) (reading : Reading V) → found ≢ 6
    → ReadsAs {X = X} wire_cause view (if found == 6 then reading else refuses (WrongType found)) a a (Err (WrongType found))
Reads-wrong_type found reading other =
    let no : (found == 6) ≡ false = grind (arith, nat_tests) in
    rw no (Reads-refuses (WrongType found) refl)
