-- Checks of numbers, as readings that consume nothing.
use Rattle.std.proofs.Common.{◌≡◌, ◌≢◌, ℕ, ◌+◌, ◌-◌, ◌%◌, ◌<◌, ◌≤◌, true, false, ltb, eqb, eq-eqb, Ok, Err, refl}
use Rattle.std.proofs.lemmas.Bool.{lt-ltb, le-ltb, ne_eqb}
use Rattle.swim_pack.specs.Composing.{ReadsAs, same}
use Rattle.swim_pack.specs.Ends.{Source}
use Rattle.swim_pack.proofs.Composing.{Reads-gives, Reads-refuses}
use Rattle.capture.specs.declared.capture_fault.CaptureFault.TheVariants.{Version, BadBlock, TooManyInterfaces}
use Rattle.capture.specs.declared.stop.Stop.TheVariants.{Fault}
use Rattle.capture.specs.Pcapng.{room_in, room_behind, same_total, has_place}
use Rattle.capture.specs.Taking.{stop_cause, checked_version}

pub version-right : (wanted major : ℕ) (x : Unit {0}) (at : Source) → major ≡ wanted
    → ReadsAs {X = Unit {0}} stop_cause (λ _. tt) (checked_version wanted major) at at (Ok x)
version-right wanted major x at is = let e : eqb major wanted ≡ true = eq-eqb _ _ is in rw e (Reads-gives {view = λ (_ : Unit {0}). tt} x)

pub version-wrong : (wanted major : ℕ) (at : Source) → major ≢ wanted
    → ReadsAs {X = Unit {0}} stop_cause (λ _. tt) (checked_version wanted major) at at (Err (Fault (Version major)))
version-wrong wanted major at other = let e : eqb major wanted ≡ false = ne_eqb _ _ other
    in rw e (Reads-refuses (Fault (Version major)) refl)

pub total-right : (again total : ℕ) (x : Unit {0}) (at : Source) → again ≡ total
    → ReadsAs {X = Unit {0}} stop_cause (λ _. tt) (same_total again total) at at (Ok x)
total-right again total x at is = let e : eqb again total ≡ true = eq-eqb _ _ is in rw e (Reads-gives {view = λ (_ : Unit {0}). tt} x)

pub total-wrong : (again total : ℕ) (at : Source) → again ≢ total
    → ReadsAs {X = Unit {0}} stop_cause (λ _. tt) (same_total again total) at at (Err (Fault BadBlock))
total-wrong again total at other = let e : eqb again total ≡ false = ne_eqb _ _ other in rw e (Reads-refuses (Fault BadBlock) refl)

pub place-free : (count : ℕ) (x : Unit {0}) (at : Source) → count < 4096
    → ReadsAs {X = Unit {0}} stop_cause (λ _. tt) (has_place count) at at (Ok x)
place-free count x at few = let e : ltb count 4096 ≡ true = lt-ltb _ _ few in rw e (Reads-gives {view = λ (_ : Unit {0}). tt} x)

pub place-none : (count : ℕ) (at : Source) → 4096 ≤ count
    → ReadsAs {X = Unit {0}} stop_cause (λ _. tt) (has_place count) at at (Err (Fault TooManyInterfaces))
place-none count at many = let e : ltb count 4096 ≡ false = le-ltb _ _ many in rw e (Reads-refuses (Fault TooManyInterfaces) refl)

pub behind-right : (captured room : ℕ) (at : Source) → captured ≤ room
    → ReadsAs stop_cause same (room_behind captured room) at at (Ok (room - captured))
behind-right captured room at fits = let e : ltb room captured ≡ false = le-ltb _ _ fits in rw e (Reads-gives {view = same} _)

pub behind-wrong : (captured room : ℕ) (at : Source) → room < captured
    → ReadsAs {X = ℕ} stop_cause same (room_behind captured room) at at (Err (Fault BadBlock))
behind-wrong captured room at cut = let e : ltb room captured ≡ true = lt-ltb _ _ cut in rw e (Reads-refuses (Fault BadBlock) refl)

pub room-right : (fields total : ℕ) (at : Source) → total % 4 ≡ 0 → fields + 12 ≤ total
    → ReadsAs stop_cause same (room_in fields total) at at (Ok (total - (fields + 12)))
room-right fields total at even fits =
    let e : eqb (total % 4) 0 ≡ true = eq-eqb _ _ even in
    let f : ltb total (fields + 12) ≡ false = le-ltb _ _ fits in
    rw (e, f) (Reads-gives {view = same} _)

pub room-odd : (fields total : ℕ) (at : Source) → total % 4 ≢ 0
    → ReadsAs {X = ℕ} stop_cause same (room_in fields total) at at (Err (Fault BadBlock))
room-odd fields total at odd = let e : eqb (total % 4) 0 ≡ false = ne_eqb _ _ odd in rw e (Reads-refuses (Fault BadBlock) refl)

pub room-short : (fields total : ℕ) (at : Source) → total % 4 ≡ 0 → total < fields + 12
    → ReadsAs {X = ℕ} stop_cause same (room_in fields total) at at (Err (Fault BadBlock))
room-short fields total at even short =
    let e : eqb (total % 4) 0 ≡ true = eq-eqb _ _ even in
    let f : ltb total (fields + 12) ≡ true = lt-ltb _ _ short in
    rw (e, f) (Reads-refuses (Fault BadBlock) refl)
