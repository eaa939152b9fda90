-- Numbers with a sign that Serf writes are read back.
use Rattle.std.proofs.Common.{◌≡◌, ℕ, suc, ◌+◌, ◌-◌, ◌*◌, ◌%◌, ◌^◌, ◌<◌, ◌≤◌, true, false, ltb, eqb, List, [], ◌∷◌}
use Rattle.std.proofs.Common.{◌++◌, refl, sym, ap, ◌∙◌, append-nil, arith, ℤ, pos, negsuc, w8, w64}
use Rattle.std.proofs.lemmas.Bool.{lt-ltb, le-ltb, ltb-true, ne_eqb}
use Rattle.std.specs.Prelude.{FitsSigned}
use Rattle.std.proofs.lemmas.Int.{ints}
use Rattle.std.specs.Int.{cast_signed}
use Rattle.byteorder.specs.Endian.{big_number, big_bytes, twos_complement}
use Rattle.byteorder.specs.Numbers.{big_number-reads_back, length-bytes_high_first}
use Rattle.swim_pack.specs.Spelling.{number_text}
use Rattle.serf_message.specs.Reading.{signed_at, unsigned_at, complement_at, bytes_at}
use Rattle.serf_message.specs.Writing.{negative_text, signed_text}
use Rattle.serf_message.proofs.Again.{read, split, number_again, bytes_again}

unsigned_first : (v : ℕ) (rest : List ℕ) → signed_at (number_text v ++ rest) ≡ unsigned_at (number_text v ++ rest)
unfolding signed_at number_text
unsigned_first v rest =
    let P : List ℕ → Type 0 = λ t. signed_at (t ++ rest) ≡ unsigned_at (t ++ rest) in
    split (ltb v 128) P _ _ (λ e. let a : ltb v 0xd0 ≡ true = lt-ltb _ _ (omega (arith, ltb-true v 128 e)) in rw a refl) (λ _.
    split (ltb v (2 ^ 8)) P _ _ (λ _. refl) (λ _.
    split (ltb v (2 ^ 16)) P _ _ (λ _. refl) (λ _.
    split (ltb v (2 ^ 32)) P _ _ (λ _. refl) (λ _. refl))))

positive_again : (v : ℕ) (rest : List ℕ) → v < 2 ^ 63 → signed_at (number_text v ++ rest) ≡ read (pos v) rest
positive_again v rest lt =
    let z : cast_signed w64 v ≡ pos v = omega (arith, ints) in
    unsigned_first v rest ∙ rw (number_again 0xffff_ffff_ffff_ffff v rest (omega arith) (omega arith), z) refl

digits_again : (n x : ℕ) (z : ℤ) (rest : List ℕ) → x < 256 ^ n → twos_complement n x ≡ z
    → complement_at n (big_bytes n x ++ rest) ≡ read z rest
digits_again n x z rest lt e =
    let taken = ap (λ k. bytes_at k (big_bytes n x ++ rest)) (sym (length-bytes_high_first n x)) ∙ bytes_again (big_bytes n x) rest in
    let value = ap (big_number n) (sym (append-nil (big_bytes n x))) ∙ big_number-reads_back n x [] lt in
    rw (taken, value, e) refl

complement_is : (n x v m : ℕ) → 2 ^ (8 * n - 1) ≤ x → m ≡ 2 ^ (8 * n) → x + (v + 1) ≡ m → twos_complement n x ≡ negsuc v
complement_is n x v m le e f =
    let above : ltb x (2 ^ (8 * n - 1)) ≡ false = le-ltb _ _ le in
    rw (above, sym e) (omega (arith, ints))

least_again : (v : ℕ) (rest : List ℕ) → v < 0x20 → signed_at ((0xff - v) ∷ rest) ≡ read (negsuc v) rest
unfolding signed_at
least_again v rest lt =
    let a : ltb (0xff - v) 0xd0 ≡ false = le-ltb _ _ (omega arith) in
    let b : eqb (0xff - v) 0xd0 ≡ false = ne_eqb (0xff - v) 0xd0 (omega arith) in
    let d : eqb (0xff - v) 0xd1 ≡ false = ne_eqb (0xff - v) 0xd1 (omega arith) in
    let e : eqb (0xff - v) 0xd2 ≡ false = ne_eqb (0xff - v) 0xd2 (omega arith) in
    let f : eqb (0xff - v) 0xd3 ≡ false = ne_eqb (0xff - v) 0xd3 (omega arith) in
    let g : ltb (0xff - v) 0xe0 ≡ false = le-ltb _ _ (omega arith) in
    let h : ltb (0xff - v) 0x80 ≡ false = le-ltb _ _ (omega arith) in
    let k : 0x100 - suc (0xff - v) ≡ v = omega arith in
    let z : cast_signed w8 (0xff - v) ≡ negsuc v = rw (h, k) refl in
    rw (a, b, d, e, f, g, z) refl

one_byte : (x : ℕ) → x < 0x100 → big_bytes 1 x ≡ x ∷ []
one_byte x lt = let e : x % 256 ≡ x = omega arith in ap (λ (b : ℕ). b ∷ []) e

one_byte_again : (v : ℕ) (rest : List ℕ) → v < 0x80 → complement_at 1 ((0xff - v) ∷ rest) ≡ read (negsuc v) rest
one_byte_again v rest lt =
    let e : big_bytes 1 (0xff - v) ≡ (0xff - v) ∷ [] = one_byte (0xff - v) (omega arith) in
    ap (λ (t : List ℕ). complement_at 1 (t ++ rest)) (sym e)
    ∙ digits_again 1 (0xff - v) (negsuc v) rest (omega arith) (complement_is 1 (0xff - v) v 0x100 (omega arith) refl (omega arith))

negative_again : (v : ℕ) (rest : List ℕ) → v < 2 ^ 63 → signed_at (negative_text v ++ rest) ≡ read (negsuc v) rest
unfolding signed_at negative_text
negative_again v rest lt =
    let P : List ℕ → Type 0 = λ t. signed_at (t ++ rest) ≡ read (negsuc v) rest in
    split (ltb v 0x20) P _ _ (λ e. least_again v rest (ltb-true _ _ e)) (λ _.
    split (ltb v 0x80) P _ _ (λ e. one_byte_again v rest (ltb-true _ _ e)) (λ _.
    split (ltb v 0x8000) P _ _ (λ e. two_bytes_again v rest (ltb-true _ _ e)) (λ _.
    split (ltb v 0x8000_0000) P _ _ (λ e. four_bytes_again v rest (ltb-true _ _ e)) (λ _. eight_bytes_again v rest lt))))
  where
    two_bytes_again : (v : ℕ) (rest : List ℕ) → v < 0x8000 → complement_at 2 (big_bytes 2 (0xffff - v) ++ rest) ≡ read (negsuc v) rest
    two_bytes_again v rest lt = digits_again 2 (0xffff - v) (negsuc v) rest (omega arith)
        (complement_is 2 (0xffff - v) v 0x1_0000 (omega arith) refl (omega arith))

    four_bytes_again : (v : ℕ) (rest : List ℕ) → v < 0x8000_0000
        → complement_at 4 (big_bytes 4 (0xffff_ffff - v) ++ rest) ≡ read (negsuc v) rest
    four_bytes_again v rest lt = digits_again 4 (0xffff_ffff - v) (negsuc v) rest (omega arith)
        (complement_is 4 (0xffff_ffff - v) v 0x1_0000_0000 (omega arith) refl (omega arith))

    eight_bytes_again : (v : ℕ) (rest : List ℕ) → v < 2 ^ 63
        → complement_at 8 (big_bytes 8 (0xffff_ffff_ffff_ffff - v) ++ rest) ≡ read (negsuc v) rest
    eight_bytes_again v rest lt =
        digits_again 8 (0xffff_ffff_ffff_ffff - v) (negsuc v) rest (omega arith)
        (complement_is 8 (0xffff_ffff_ffff_ffff - v) v 0x1_0000_0000_0000_0000 (omega arith) refl
        (omega arith))

-- a number of 64 bits with a sign
pub signed_again : (z : ℤ) (rest : List ℕ) → FitsSigned w64 z → signed_at (signed_text z ++ rest) ≡ read z rest
signed_again (pos v) rest fits = positive_again v rest (omega (arith, ints))
signed_again (negsuc v) rest fits = negative_again v rest (omega (arith, ints))
