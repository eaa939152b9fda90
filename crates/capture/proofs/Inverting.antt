-- What was read, from the result of a reading.
use Rattle.std.proofs.Common.{◌≡◌, ℕ, ◌-◌, ◌<◌, ◌≤◌, ◌==◌, Bool, true, false, ltb, nat_lt, List, [], ◌∷◌, ◌++◌, length, take, drop}
use Rattle.std.proofs.Common.{Option, Some, None, Result, Ok, Err, refl}
use Rattle.std.proofs.Common.{sym, ap, ap₂, ◌∙◌, if◌then◌else◌, append_assoc, length-append, arith}
use Rattle.std.proofs.lemmas.Bool.{ltb-false, eqb-true}
use Rattle.std.proofs.lemmas.List.{take-append-drop, length-take-le}
use Rattle.swim_pack.specs.Composing.{then_read, ◌>>=◌, gives, refuses, some_or}
use Rattle.capture.specs.declared.capture_fault.CaptureFault.TheVariants.{Cut, TooLong, Version}
use Rattle.capture.specs.declared.stop.Stop.{Stop}
use Rattle.capture.specs.declared.stop.Stop.TheVariants.{Fault}
use Rattle.capture.specs.Taking.{Reading, next_part, first_byte, next_header, captured_at, checked_version}
use Rattle.capture.proofs.Prompting.{read, same_value, same_rest}

-- the value and the rest of a first reading, with which the next one goes on
pub record Parted {A B : Type 0} (first : Reading A) (next : A → Reading B) (bytes : List ℕ) (value : B) (rest : List ℕ) : Type 0 where
  pub middle : A
  pub left : List ℕ
  pub front : first bytes ≡ Ok (middle, left)
  pub back : next middle left ≡ Ok (value, rest)

pub parted : {A B : Type 0} (first : Reading A) (next : A → Reading B) (bytes : List ℕ) (value : B) (rest : List ℕ)
    → (first >>= next) bytes ≡ Ok (value, rest) → Parted first next bytes value rest
parted {A} {B} first next bytes value rest e = by_first (first bytes) refl e
  where
    by_first : (r : Result (A × List ℕ) Stop) → first bytes ≡ r → then_read next r ≡ Ok (value, rest)
        → Parted first next bytes value rest
    by_first (Ok r) is e = record { middle = r.0; left = r.1; front = is; back = e }
    by_first (Err stop) is e = absurd cc

-- one of two readings
pub chosen : {A : Type 0} (P : Type 0) (b : Bool) (one other : Reading A) (bytes rest : List ℕ) (value : A)
    → (if b then one else other) bytes ≡ Ok (value, rest)
    → (b ≡ true → one bytes ≡ Ok (value, rest) → P) → (b ≡ false → other bytes ≡ Ok (value, rest) → P) → P
chosen P true one other bytes rest value e f g = f refl e
chosen P false one other bytes rest value e f g = g refl e

pub if_is : {A : Type 0} (P : Type 0) (b : Bool) (x y z : A) → (if b then x else y) ≡ z → (b ≡ true → x ≡ z → P)
    → (b ≡ false → y ≡ z → P) → P
if_is P true x y z e f g = f refl e
if_is P false x y z e f g = g refl e

pub some_same : {A : Type 0} (x y : A) → Some x ≡ Some y → x ≡ y
some_same x y e = cc

pub some_read : {A : Type 0} (stop : Stop) (o : Option A) (bytes rest : List ℕ) (value : A)
    → some_or stop o bytes ≡ Ok (value, rest) → (o ≡ Some value) × (bytes ≡ rest)
some_read stop None bytes rest value e = absurd cc
some_read stop (Some x) bytes rest value e = (ap Some (same_value x value bytes rest e), same_rest x value bytes rest e)

-- a part, and the bytes behind it
abbrev pub IsFront : ℕ → List ℕ → List ℕ → List ℕ → Type 0
IsFront n text rest bytes = (length text ≡ n) × (bytes ≡ text ++ rest)

pub part_read : (n : ℕ) (bytes text rest : List ℕ) → next_part n bytes ≡ Ok (text, rest) → IsFront n text rest bytes
part_read n bytes text rest e = by_length (ltb (length bytes) n) refl e
  where
    by_length : (b : Bool) → ltb (length bytes) n ≡ b
        → (if b then Err (Fault Cut) else read (take n bytes) (drop n bytes)) ≡ Ok (text, rest) → IsFront n text rest bytes
    by_length true is e = absurd cc
    by_length false is e =
        let got : take n bytes ≡ text = same_value (take n bytes) text (drop n bytes) rest e in
        let left : drop n bytes ≡ rest = same_rest (take n bytes) text (drop n bytes) rest e in (
          sym (ap length got) ∙ length-take-le n bytes (ltb-false _ _ is),
          sym (take-append-drop n bytes)
              ∙ ap₂ (λ (t r : List ℕ). t ++ r) got left,
        )

first_read : (bytes text rest : List ℕ) → first_byte bytes ≡ Ok (text, rest) → IsFront 1 text rest bytes
first_read [] text rest e = absurd cc
first_read (x ∷ bytes) text rest e =
    let got : x ∷ [] ≡ text = same_value (x ∷ []) text bytes rest e in
    let left : bytes ≡ rest = same_rest (x ∷ []) text bytes rest e in
    (sym (ap length got), ap₂ (λ (t r : List ℕ). t ++ r) got left)

pub header_read : (n : ℕ) (bytes text rest : List ℕ) → 0 < n → next_header n bytes ≡ Ok (text, rest) → IsFront n text rest bytes
unfolding next_header
header_read n bytes text rest some e =
    let p = parted first_byte _ bytes text rest e in
    let q = parted (next_part (n - 1)) _ p.left text rest p.back in
    let f = first_read bytes p.middle p.left p.front in
    let b = part_read (n - 1) p.left q.middle q.left q.front in
    let got : p.middle ++ q.middle ≡ text = same_value (p.middle ++ q.middle) text q.left rest q.back in
    let left : q.left ≡ rest = same_rest (p.middle ++ q.middle) text q.left rest q.back in
    let long : length (p.middle ++ q.middle) ≡ n = omega (arith, length-append p.middle q.middle, f.0, b.0, some) in
    let all : bytes ≡ (p.middle ++ q.middle) ++ q.left =
    f.1 ∙ ap (λ (l : List ℕ). p.middle ++ l) b.1 ∙ sym (append_assoc p.middle q.middle q.left) in
    (sym (ap length got) ∙ long, all ∙ ap₂ (λ (t r : List ℕ). t ++ r) got left)

pub captured_read : (n : ℕ) (bytes text rest : List ℕ) → captured_at n bytes ≡ Ok (text, rest)
    → (n ≤ 262144) × (length text ≡ n) × (bytes ≡ text ++ rest)
unfolding captured_at
captured_read n bytes text rest e =
    chosen _ (nat_lt 262144 n) (refuses (Fault (TooLong n))) (next_part n) bytes rest text e (λ is no_more. absurd cc)
    (λ is more. let p = part_read n bytes text rest more in (ltb-false _ _ is, p.0, p.1))

pub version_read : (wanted major : ℕ) (bytes rest : List ℕ) → checked_version wanted major bytes ≡ Ok (tt, rest)
    → (major ≡ wanted) × (bytes ≡ rest)
version_read wanted major bytes rest e =
    chosen ((major ≡ wanted) × (bytes ≡ rest)) (major == wanted) (gives tt) (refuses (Fault (Version major))) bytes rest tt e
    (λ same made. (eqb-true _ _ same, same_rest tt tt bytes rest made)) (λ different absent. absurd cc)
