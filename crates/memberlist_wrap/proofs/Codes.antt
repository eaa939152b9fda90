-- Codes and the bytes that they mean, as they are read.
use Rattle.std.proofs.Common.{◌≡◌, ℕ, ◌+◌, ◌^◌, ◌<◌, ◌≤◌, List, [], ◌∷◌, ◌++◌, length, refl, sym, ap, subst, ◌∙◌, arith}
use Rattle.std.proofs.Common.{append_assoc, inl, inr, get_or, drop, cond, ltb, Bool, true, false}
use Rattle.std.proofs.lemmas.List.{append-nil, length-append, at_drop_more, get_or_default, drop_more}
use Rattle.memberlist_wrap.specs.Bits.{bits, bits_of}
use Rattle.memberlist_wrap.specs.Lzw.{NextCode, kept_words, width, StandsFor, ReadsCodes, CodesGive}
use Rattle.memberlist_wrap.specs.Lzw.StandsFor.{literal, again as repeated}
use Rattle.memberlist_wrap.proofs.Polynomials.{length-bits}

-- ---- codes after codes

pub Reads-then : (words : List (List ℕ)) (codes all out : List ℕ) (after : List (List ℕ))
    (rest codes' out' : List ℕ) (after' : List (List ℕ)) (rest' : List ℕ)
    → ReadsCodes words codes all out after rest → ReadsCodes after codes' rest out' after' rest'
    → ReadsCodes words (codes ++ codes') all (out ++ out') after' rest'
Reads-then words [] all out after rest codes' out' after' rest' first second =
    let none = first.0 in
    let same = first.1 in
    let left = first.2 in
    rw (none, ← same, ← left) second
Reads-then words (code ∷ codes) all out after rest codes' out' after' rest' first second = elim first.3 [
  | inl clear ↦ (
    first.0,
    first.1,
    first.2,
    inl (clear.0, Reads-then [] codes first.0 out after rest codes' out' after' rest' clear.1 second),
  )
  | inr adds ↦ (
    first.0,
    first.1,
    first.2,
    inr (
      adds.0,
      adds.1 ++ out',
      adds.2,
      Reads-then (kept_words words adds.0) codes first.0 adds.1 after rest codes' out' after' rest' adds.3 second,
      ap (λ (o : List ℕ). o ++ out') adds.4 ∙ append_assoc adds.0 adds.1 out',
    ),
  )
]

pub CodesGive-start : (bytes : List ℕ) → CodesGive bytes [] [] (bits_of bytes)
CodesGive-start bytes = record { codes = []; reads = (refl, refl, refl) }

-- one more clear code
pub CodesGive-clear : (bytes out : List ℕ) (words : List (List ℕ)) (rest more : List ℕ) (code : ℕ)
    → CodesGive bytes out words rest → NextCode words rest code more → code ≡ 256
    → CodesGive bytes out [] more
CodesGive-clear bytes out words rest more code reaches next clear = record {
  codes = reaches.codes ++ code ∷ [];
  reads =
      let P : List ℕ → Type 0 = λ o. ReadsCodes [] (reaches.codes ++ code ∷ []) (bits_of bytes) o [] more in
      subst P (append-nil out)
      (Reads-then [] reaches.codes (bits_of bytes) out words rest (code ∷ []) [] [] more reaches.reads
      (more, next.is, next.below, inl (clear, (refl, refl, refl))));
}

-- one more word
pub CodesGive-word : (bytes out : List ℕ) (words : List (List ℕ)) (rest more word : List ℕ) (code : ℕ)
    → CodesGive bytes out words rest → NextCode words rest code more → StandsFor words code word
    → CodesGive bytes (out ++ word) (kept_words words word) more
CodesGive-word bytes out words rest more word code reaches next stands = record {
  codes = reaches.codes ++ code ∷ [];
  reads =
      Reads-then [] reaches.codes (bits_of bytes) out words rest (code ∷ []) word (kept_words words word) more reaches.reads
      (more, next.is, next.below, inr (word, [], stands, (refl, refl, refl), sym (append-nil word)));
}

-- ---- the two control codes are not words

pub no_clear : (words : List (List ℕ)) (word : List ℕ) (code : ℕ) → code ≡ 256 → StandsFor words code word → ⊥
no_clear words word code is (literal c e) = omega arith
no_clear words word code is (repeated before old after p q r) = omega arith

pub no_end : (words : List (List ℕ)) (word : List ℕ) (code : ℕ) → code ≡ 257 → StandsFor words code word → ⊥
no_end words word code is (literal c e) = omega arith
no_end words word code is (repeated before old after p q r) = omega arith

wide_by : (a b c : Bool) → 257 < 2 ^ cond a 9 (cond b 10 (cond c 11 12))
wide_by true b c = omega arith
wide_by false true c = omega arith
wide_by false false true = omega arith
wide_by false false false = omega arith

-- every code has room for the two control codes
pub wide : (n : ℕ) → 257 < 2 ^ width n
wide n = wide_by (ltb n 255) (ltb n 767) (ltb n 1791)

width_low_by : (a b c : Bool) → (9 ≤ cond a 9 (cond b 10 (cond c 11 12))) × (cond a 9 (cond b 10 (cond c 11 12)) ≤ 12) ×
    (2 ^ cond a 9 (cond b 10 (cond c 11 12)) ≤ 4096)
width_low_by true b c = (omega arith, omega arith, omega arith)
width_low_by false true c = (omega arith, omega arith, omega arith)
width_low_by false false true = (omega arith, omega arith, omega arith)
width_low_by false false false = (omega arith, omega arith, omega arith)

pub width_between : (n : ℕ) → (9 ≤ width n) × (width n ≤ 12) × (2 ^ width n ≤ 4096)
width_between n = width_low_by (ltb n 255) (ltb n 767) (ltb n 1791)

-- ---- one byte at a time

-- a byte moves from the bytes to the held bits
pub taken_in : (bytes held held' : List ℕ) (i b : ℕ) → i < length bytes → b ≡ get_or bytes i 0 → held' ≡ held ++ bits 8 b
    → held ++ bits_of (drop i bytes) ≡ held' ++ bits_of (drop (i + 1) bytes)
taken_in bytes held held' i b within is more =
    at_drop_more (λ bs. held ++ bits_of bs) bytes i b within
    ∙ ap (λ x. held ++ (bits 8 x ++ bits_of (drop (i + 1) bytes))) (get_or_default bytes i b 0 within ∙ sym is)
    ∙ sym (append_assoc held (bits 8 b) (bits_of (drop (i + 1) bytes)))
    ∙ ap (λ h. h ++ bits_of (drop (i + 1) bytes)) (sym more)

-- a code moves out of the held bits
next_code : (words : List (List ℕ)) (coming held' held'' rest : List ℕ) (w code : ℕ) → coming ≡ held' ++ rest → w ≡ width
    (length words) → code < 2 ^ w → held' ≡ bits w code ++ held''
    → NextCode words coming code (held'' ++ rest)
next_code words coming held' held'' rest w code is e below more = record {
  below = rw (← e) below;
  is = rw (← e) (is ∙ ap (λ h. h ++ rest) more ∙ append_assoc (bits w code) held'' rest);
}

-- a byte and then a code
pub read_code : (bytes : List ℕ) (words : List (List ℕ)) (held held' held'' : List ℕ) (i w code : ℕ) → i < length bytes
    → held' ≡ held ++ bits 8 (get_or bytes i 0)
    → w ≡ width (length words) → (code < 2 ^ w) × (held' ≡ bits w code ++ held'')
    → NextCode words (held ++ bits_of (drop i bytes)) code (held'' ++ bits_of (drop (i + 1) bytes))
read_code bytes words held held' held'' i w code within more e taken =
    next_code words _ held' held'' _ w code (taken_in bytes held held' i (get_or bytes i 0) within refl more) e taken.0 taken.1

-- few bits are left after a code
pub few_left : (held held' held'' : List ℕ) (b w code : ℕ) → length held < w → held' ≡ held ++ bits 8 b
    → held' ≡ bits w code ++ held'' → length held'' < 8
few_left held held' held'' b w code short more taken =
    omega (
      arith,
      ap length more,
      ap length taken,
      length-append held (bits 8 b),
      length-append (bits w code) held'',
      length-bits 8 b,
      length-bits w code,
    )

pub bits_of_some : (bytes : List ℕ) (i : ℕ) → i < length bytes → 8 ≤ length (bits_of (drop i bytes))
bits_of_some bytes i within =
    omega (
      arith,
      ap (λ bs. length (bits_of bs)) (drop_more bytes i 0 within),
      length-append (bits 8 (get_or bytes i 0)) (bits_of (drop (i + 1) bytes)),
      length-bits 8 (get_or bytes i 0),
    )

-- the held bits are few again
pub few_again : (held held' held'' : List ℕ) (b w code n : ℕ) → length held < w → held' ≡ held ++ bits 8 b
    → held' ≡ bits w code ++ held'' → length held'' < width n
few_again held held' held'' b w code n short more taken = omega
    (arith, few_left held held' held'' b w code short more taken, (width_between n).0)
