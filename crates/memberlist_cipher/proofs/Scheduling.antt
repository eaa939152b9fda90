-- The words of a key, one by one.
use Rattle.std.proofs.Common.{◌≡◌, ◌≢◌, ℕ, zero, suc, ◌+◌, ◌-◌, ◌*◌, ◌/◌, ◌%◌, ◌<◌, ◌≤◌, ◌==◌, nat_lt, if◌then◌else◌}
use Rattle.std.proofs.Common.{Bool, true, false, bit_xor, inl, inr, List, [], ◌∷◌, ◌++◌, length, map, take, refl, sym}
use Rattle.std.proofs.Common.{ap, ◌∙◌, arith, length-append, append_assoc, append-nil}
use Rattle.std.specs.Int.Bits.{xor_zero_r}
use Rattle.std.proofs.Math.Seq.{take-append_seam}
use Rattle.std.proofs.lemmas.Bool.{lt-ltb}
use Rattle.std.proofs.lemmas.Bool.Decides.{nat_tests}
use Rattle.memberlist_cipher.specs.Field.{sub, x_to}
use Rattle.memberlist_cipher.specs.Block.{plus_bytes, word, turned, added, next_word, expanded, schedule}
use Rattle.memberlist_cipher.specs.Encryption.{IsKey}
use Rattle.memberlist_cipher.specs.Prepared.{scheduled_key}
use Rattle.memberlist_cipher.proofs.Sixteen.{four}

pub added_first : (nk i a b c d : ℕ) → i % nk ≡ 0
    → added nk i (a ∷ b ∷ c ∷ d ∷ []) ≡ bit_xor (sub b) (x_to (i / nk - 1)) ∷ sub c ∷ sub d ∷ sub a ∷ []
unfolding added turned plus_bytes
added_first nk i a b c d e = rw e (simp xor_zero_r)

pub added_middle : (nk i : ℕ) (t : List ℕ) → i % nk ≡ 4 → 6 < nk → added nk i t ≡ map sub t
unfolding added
added_middle nk i t e large =
    let b = lt-ltb 6 nk large in
    rw (e, b) refl

pub added_none : (nk i : ℕ) (t : List ℕ) → i % nk ≡ 4 → nk ≤ 6 → added nk i t ≡ t
unfolding added
added_none nk i t e small = rw e (grind (arith, nat_tests))

pub added_other : (nk i : ℕ) (t : List ℕ) → i % nk ≢ 0 → i % nk ≢ 4 → added nk i t ≡ t
unfolding added
added_other nk i t e f = grind (arith, nat_tests)

pub expanded_step : (nk n : ℕ) (w : List ℕ) → 0 < n → expanded nk n w ≡ expanded nk (n - 1) (w ++ next_word nk w)
unfolding expanded
expanded_step nk zero w some = absurd (omega arith)
expanded_step nk (suc n) w some =
    let e : n ≡ suc n - 1 = omega arith in
    ap (λ k. expanded nk k (w ++ next_word nk w)) e

four_either : (b : Bool) (x y : List ℕ) → length x ≡ 4 → length y ≡ 4 → length (if b then x else y) ≡ 4
four_either true x y p q = p
four_either false x y p q = q

length-added_four : (nk i a b c d : ℕ) → length (added nk i (a ∷ b ∷ c ∷ d ∷ [])) ≡ 4
unfolding added turned plus_bytes
length-added_four nk i a b c d = four_either (i % nk == 0) _ _ refl
    (four_either (i % nk == 4) _ _ (four_either (nat_lt 6 nk) _ _ refl refl) refl)

length-added : (nk i : ℕ) (last : List ℕ) → length last ≡ 4 → length (added nk i last) ≡ 4
length-added nk i last size = ap (λ (l : List ℕ). length (added nk i l)) (four last size) ∙ length-added_four nk i _ _ _ _

plus_four : (a b c d : ℕ) (k : List ℕ) → length k ≡ 4 → length (plus_bytes (a ∷ b ∷ c ∷ d ∷ []) k) ≡ 4
unfolding plus_bytes
plus_four a b c d (w ∷ x ∷ y ∷ z ∷ []) size = refl
plus_four a b c d k size = ap (λ (l : List ℕ). length (plus_bytes (a ∷ b ∷ c ∷ d ∷ []) l)) (four k size)

pub length-next_word : (nk : ℕ) (w : List ℕ) → length (next_word nk w) ≡ 4
unfolding next_word word
length-next_word nk w = plus_four _ _ _ _ (added nk (length w / 4) (word w (length w - 4)))
    (length-added nk (length w / 4) (word w (length w - 4)) refl)

length-expanded : (nk n : ℕ) (w : List ℕ) → length (expanded nk n w) ≡ length w + 4 * n
unfolding expanded
length-expanded nk zero w = omega arith
length-expanded nk (suc n) w =
    length-expanded nk n (w ++ next_word nk w) ∙ omega (arith, length-append w (next_word nk w), length-next_word nk w)

pub length-schedule : (key : List ℕ) → IsKey key → length (schedule key) ≡ 112 + 16 * (length key / 4)
unfolding schedule
length-schedule key (inl e) = length-expanded (length key / 4) (28 + 3 * (length key / 4)) key ∙ omega arith
length-schedule key (inr (inl e)) = length-expanded (length key / 4) (28 + 3 * (length key / 4)) key ∙ omega arith
length-schedule key (inr (inr e)) = length-expanded (length key / 4) (28 + 3 * (length key / 4)) key ∙ omega arith

-- a schedule starts with the key
expanded_front : (nk n : ℕ) (w : List ℕ) → (more : List ℕ) × (expanded nk n w ≡ w ++ more)
unfolding expanded
expanded_front nk zero w = ([], sym (append-nil w))
expanded_front nk (suc n) w =
    let rest = expanded_front nk n (w ++ next_word nk w) in
    (next_word nk w ++ rest.0, rest.1 ∙ append_assoc w (next_word nk w) rest.0)

key_size : (key : List ℕ) → IsKey key → length (schedule key) / 4 - 28 ≡ length key
key_size key (inl e) = omega (arith, length-schedule key (inl e))
key_size key (inr (inl e)) = omega (arith, length-schedule key (inr (inl e)))
key_size key (inr (inr e)) = omega (arith, length-schedule key (inr (inr e)))

pub scheduled_is : (key words : List ℕ) → IsKey key → words ≡ schedule key → scheduled_key words ≡ key
unfolding scheduled_key schedule
scheduled_is key words good is =
    let nk = length key / 4 in
    let front = expanded_front nk (28 + 3 * nk) key in
    ap (λ (w : List ℕ). take (length w / 4 - 28) w) is
    ∙ ap (λ (n : ℕ). take n (schedule key)) (key_size key good)
    ∙ ap (take (length key)) front.1
    ∙ take-append_seam key front.0
