-- The steps of passing over values.
use Rattle.std.proofs.Common.{◌≡◌, ℕ, zero, suc, ◌+◌, ◌<◌, ◌≤◌, true, false, ltb, List, length, Result, Ok, Err, refl, arith}
use Rattle.std.proofs.lemmas.Bool.{lt-ltb, le-ltb}
use Rattle.serf_message.specs.declared.fault.SerfFault.{SerfFault}
use Rattle.serf_message.specs.declared.fault.SerfFault.TheVariants.{Ended}
use Rattle.serf_message.specs.Reading.{values_within, outside_at}

abbrev pub passed : List ℕ → Result (Unit {0} × List ℕ) SerfFault
passed rest = Ok (tt, rest)

abbrev pub failed : (A : Type 0) → SerfFault → Result A SerfFault
failed A error = Err error

-- no values
pub none_left : (steps n : ℕ) (bytes : List ℕ) → n ≡ 0 → values_within steps n bytes ≡ passed bytes
unfolding values_within
none_left zero n bytes e = rw e refl
none_left (suc steps) n bytes e = rw e refl

-- more values than bytes
pub too_many : (steps n : ℕ) (bytes : List ℕ) → length bytes < n → values_within steps n bytes ≡ failed (Unit {0} × List ℕ) Ended
unfolding values_within
too_many steps zero bytes lt = absurd (omega arith)
too_many zero (suc n) bytes lt = refl
too_many (suc steps) (suc n) bytes lt = let above : ltb (length bytes) (suc n) ≡ true = lt-ltb _ _ lt in rw above refl

-- no steps are left
pub no_steps : (steps n : ℕ) (bytes : List ℕ) → steps ≡ 0 → 0 < n → values_within steps n bytes ≡ failed (Unit {0} × List ℕ) Ended
unfolding values_within
no_steps steps zero bytes e lt = absurd (omega arith)
no_steps steps (suc n) bytes e lt = rw e refl

-- one value, and those in it
pub one_value : (steps n next others more : ℕ) (bytes after : List ℕ) → steps ≡ suc next → n ≡ suc others → n ≤ length bytes
    → outside_at bytes ≡ Ok (more, after) → values_within steps n bytes ≡ values_within next (others + more) after
unfolding values_within
one_value steps n next others more bytes after s e le read =
    let short : suc others ≤ length bytes = omega arith in
    let fits : ltb (length bytes) (suc others) ≡ false = le-ltb _ _ short in
    rw (s, e, fits, read) refl

-- a value that is refused
pub bad_value : (steps n next others : ℕ) (bytes : List ℕ) (error : SerfFault) → steps ≡ suc next → n ≡ suc others → n ≤ length bytes
    → outside_at bytes ≡ Err error → values_within steps n bytes ≡ failed (Unit {0} × List ℕ) error
unfolding values_within
bad_value steps n next others bytes error s e le read =
    let short : suc others ≤ length bytes = omega arith in
    let fits : ltb (length bytes) (suc others) ≡ false = le-ltb _ _ short in
    rw (s, e, fits, read) refl
