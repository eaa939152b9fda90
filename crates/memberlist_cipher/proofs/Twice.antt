-- Encrypting twice gives the original.
use Rattle.std.proofs.Common.{◌≡◌, ℕ, zero, suc, ◌+◌, ◌-◌, ◌*◌, ◌/◌, ◌%◌, ◌^◌, ◌≤◌, ◌⊎◌, inl, inr, bit_xor, List, []}
use Rattle.std.proofs.Common.{◌∷◌, ◌++◌, length, take, drop, refl, sym, ap, ap₂, ◌∙◌, arith, append-nil, length-append}
use Rattle.std.proofs.Common.{length-take, length-drop}
use Rattle.std.specs.Int.Bits.{xor_assoc, xor_self, xor_zero_r}
use Rattle.std.proofs.Math.Seq.{take-append_seam, drop-append_seam}
use Rattle.std.proofs.lemmas.List.{take_all, drop_all, take-append-drop}
use Rattle.std.proofs.lemmas.Bool.{cases_lt}
use Rattle.memberlist_cipher.specs.Block.{plus_bytes, shift_rows, scrambled, round_key, rounds, cipher}
use Rattle.memberlist_cipher.specs.Gcm.{blocks, counter_block, counted, counted_all, ctr}

pub length-plus : (a k : List ℕ) → length a ≤ length k → length (plus_bytes a k) ≡ length a
unfolding plus_bytes
length-plus [] k long = refl
length-plus (x ∷ a) [] long = absurd (omega arith)
length-plus (x ∷ a) (y ∷ k) long = omega (arith, length-plus a k (omega arith))

xor_twice : (x y : ℕ) → bit_xor (bit_xor x y) y ≡ x
xor_twice x y = xor_assoc x y y ∙ ap (bit_xor x) (xor_self y) ∙ xor_zero_r x

pub plus_twice : (a k : List ℕ) → length a ≤ length k → plus_bytes (plus_bytes a k) k ≡ a
unfolding plus_bytes
plus_twice [] k long = refl
plus_twice (x ∷ a) [] long = absurd (omega arith)
plus_twice (x ∷ a) (y ∷ k) long = ap₂ (λ (z : ℕ) (zs : List ℕ). z ∷ zs) (xor_twice x y) (plus_twice a k (omega arith))

pub length-scrambled : (s : List ℕ) → length (scrambled s) ≡ 16
unfolding scrambled shift_rows
length-scrambled s = refl

pub length-cipher : (words : List ℕ) (n : ℕ) (s : List ℕ) → 16 * n + 32 ≤ length words → length (cipher words n s) ≡ 16
unfolding cipher round_key
length-cipher words n s long =
    let k = round_key words (suc n) in
    let e : length (drop (16 * suc n) words) ≡ length words - 16 * suc n = length-drop (16 * suc n) words in
    let d : 16 * suc n + 16 - 16 * suc n ≡ 16 = omega arith in
    let size : length k ≡ 16 = ap (λ m. length (take m (drop (16 * suc n) words))) d
    ∙ length-take 16 (drop (16 * suc n) words) ∙ omega (arith, e) in
    length-plus (scrambled (rounds words n s)) k (omega (arith, length-scrambled (rounds words n s))) ∙ length-scrambled (rounds words n s)

counted_none : (n : ℕ) (f : List ℕ → List ℕ) (nonce : List ℕ) (c : ℕ) → counted n f nonce c [] ≡ []
unfolding counted plus_bytes
counted_none zero f nonce c = refl
counted_none (suc n) f nonce c = counted_none n f nonce ((c + 1) % 2 ^ 32)

-- the first block, and what follows it, if it is whole
apart : (first rest : List ℕ) → (length first ≡ 16) ⊎ ((length first ≤ 16) × (rest ≡ []))
    → (take 16 (first ++ rest) ≡ first) × (drop 16 (first ++ rest) ≡ rest)
apart first rest (inl size) = (
  ap (λ n. take n (first ++ rest)) (sym size) ∙ take-append_seam first rest,
  ap (λ n. drop n (first ++ rest)) (sym size) ∙ drop-append_seam first rest,
)
apart first rest (inr h) =
    let e : first ++ rest ≡ first = ap (λ (r : List ℕ). first ++ r) h.1 ∙ append-nil first in (
      ap (take 16) e ∙ take_all 16 first h.0,
      ap (drop 16) e ∙ drop_all 16 first h.0 ∙ sym h.1,
    )

first_block : (f : List ℕ → List ℕ) → ((s : List ℕ) → length (f s) ≡ 16) → (nonce : List ℕ) (c : ℕ) (bytes : List ℕ)
    → length (plus_bytes (take 16 bytes) (f (counter_block nonce c))) ≡ length (take 16 bytes)
first_block f sizes nonce c bytes =
    length-plus (take 16 bytes) (f (counter_block nonce c)) (omega (arith, length-take 16 bytes, sizes (counter_block nonce c)))

whole_or_last : (n : ℕ) (f : List ℕ → List ℕ) → ((s : List ℕ) → length (f s) ≡ 16) → (nonce : List ℕ) (c d : ℕ) (bytes : List ℕ)
    → (length (plus_bytes (take 16 bytes) (f (counter_block nonce c))) ≡ 16)
    ⊎ ((length (plus_bytes (take 16 bytes) (f (counter_block nonce c))) ≤ 16) × (counted n f nonce d (drop 16 bytes) ≡ []))
whole_or_last n f sizes nonce c d bytes =
    let size = first_block f sizes nonce c bytes in
    let cut = length-take 16 bytes in
    elim (cases_lt (length bytes) 16) [
      | inl less ↦ inr (omega (arith, size, cut), ap (counted n f nonce d) (drop_all 16 bytes (omega arith)) ∙ counted_none n f nonce d)
      | inr more ↦ inl (omega (arith, size, cut))
    ]

counted_twice : (n : ℕ) (f : List ℕ → List ℕ) → ((s : List ℕ) → length (f s) ≡ 16) → (nonce : List ℕ) (c : ℕ) (bytes : List ℕ)
    → length bytes ≤ 16 * n → counted n f nonce c (counted n f nonce c bytes) ≡ bytes
unfolding counted
counted_twice zero f sizes nonce c [] few = refl
counted_twice zero f sizes nonce c (b ∷ bytes) few = absurd (omega arith)
counted_twice (suc n) f sizes nonce c bytes few =
    let k = f (counter_block nonce c) in
    let next = (c + 1) % 2 ^ 32 in
    let first = plus_bytes (take 16 bytes) k in
    let rest = counted n f nonce next (drop 16 bytes) in
    let parts = apart first rest (whole_or_last n f sizes nonce c next bytes) in
    ap₂ (λ (a b : List ℕ). plus_bytes a k ++ counted n f nonce next b) parts.0 parts.1
    ∙ ap₂ ◌++◌ (plus_twice (take 16 bytes) k (omega (arith, length-take 16 bytes, sizes (counter_block nonce c))))
    (counted_twice n f sizes nonce next (drop 16 bytes) (omega (arith, length-drop 16 bytes)))
    ∙ take-append-drop 16 bytes

length-counted : (n : ℕ) (f : List ℕ → List ℕ) → ((s : List ℕ) → length (f s) ≡ 16) → (nonce : List ℕ) (c : ℕ) (bytes : List ℕ)
    → length bytes ≤ 16 * n → length (counted n f nonce c bytes) ≡ length bytes
unfolding counted
length-counted zero f sizes nonce c bytes few = omega arith
length-counted (suc n) f sizes nonce c bytes few =
    let k = f (counter_block nonce c) in
    let next = (c + 1) % 2 ^ 32 in
    let rest = length-counted n f sizes nonce next (drop 16 bytes) (omega (arith, length-drop 16 bytes)) in
    length-append (plus_bytes (take 16 bytes) k) (counted n f nonce next (drop 16 bytes))
    ∙ omega (arith, first_block f sizes nonce c bytes, rest, length-take 16 bytes, length-drop 16 bytes)

enough : (bytes : List ℕ) → length bytes ≤ 16 * blocks bytes
unfolding blocks
enough bytes = omega arith

pub length-ctr : (f : List ℕ → List ℕ) → ((s : List ℕ) → length (f s) ≡ 16) → (nonce bytes : List ℕ)
    → length (ctr f nonce bytes) ≡ length bytes
unfolding ctr counted_all
length-ctr f sizes nonce bytes = length-counted (blocks bytes) f sizes nonce 2 bytes (enough bytes)

same_blocks : (a b : List ℕ) → length a ≡ length b → blocks a ≡ blocks b
unfolding blocks
same_blocks a b e = ap (λ n. (n + 15) / 16) e

pub ctr_twice : (f : List ℕ → List ℕ) → ((s : List ℕ) → length (f s) ≡ 16) → (nonce bytes : List ℕ)
    → ctr f nonce (ctr f nonce bytes) ≡ bytes
unfolding ctr counted_all
ctr_twice f sizes nonce bytes =
    let once = counted (blocks bytes) f nonce 2 bytes in
    ap (λ n. counted n f nonce 2 once) (same_blocks once bytes (length-counted (blocks bytes) f sizes nonce 2 bytes (enough bytes)))
    ∙ counted_twice (blocks bytes) f sizes nonce 2 bytes (enough bytes)
