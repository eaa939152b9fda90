-- Rounds with their keys: from one state to the next.
use Rattle.std.proofs.Common.{◌≡◌, ℕ, zero, suc, ◌+◌, ◌-◌, ◌*◌, ◌<◌, ◌≤◌, w8, Fits, List, [], ◌∷◌, map, length, get_or}
use Rattle.std.proofs.Common.{take, drop, replicate, bit_xor, refl, sym, ap, ap₂, ◌∙◌, subst, arith}
use Rattle.std.specs.Int.Bits.{xor_zero_r}
use Rattle.std.proofs.lemmas.Nat.{xor_of_8}
use Rattle.std.proofs.lemmas.Simd.{length-chunk, chunk-fits}
use lib.Lanes.{zip2, Each1}
use Rattle.memberlist_cipher.specs.Field.{product, sub}
use Rattle.memberlist_cipher.specs.Block.{plus_bytes, mix, mix_columns, shift_rows, scrambled, round_key, rounds, cipher}
use Rattle.memberlist_cipher.specs.Tower.{tower}
use Rattle.memberlist_cipher.specs.States.{IsState, IsAfter, HasKey}
use Rattle.memberlist_cipher.proofs.Sixteen.{each, sixteen, cons}
use Rattle.memberlist_cipher.proofs.Rounds.{small, across, lane_fits, tower_sum, plus_is}

-- ---- bytes

small_mix : (a b c d : ℕ) → a < 256 → b < 256 → c < 256 → d < 256 → Fits w8 (mix (sub a) (sub b) (sub c) (sub d))
unfolding mix
small_mix a b c d ha hb hc hd =
    let x = product 2 (sub a) in
    let y = product 3 (sub b) in
    let z = sub c in
    let w = sub d in
    let xy = xor_of_8 x y (small a ha).two (small b hb).three in
    record { fits = xor_of_8 (bit_xor (bit_xor x y) z) w (xor_of_8 (bit_xor x y) z xy (small c hc).one) (small d hd).one }

each_mixed : (s : List ℕ) → ((i : ℕ) → get_or s i 0 < 256) → IsState (mix_columns (scrambled (each s)))
unfolding mix_columns scrambled shift_rows
each_mixed s fits =
    let byte = λ (i j k l : ℕ). small_mix (get_or s i 0) (get_or s j 0) (get_or s k 0) (get_or s l 0) (fits i) (fits j) (fits k) (fits l) in
    record {
      size = refl;
      fits = (
        byte 0 5 10 15,
        (
          byte 5 10 15 0,
          (
            byte 10 15 0 5,
            (
              byte 15 0 5 10,
              (
                byte 4 9 14 3,
                (
                  byte 9 14 3 4,
                  (
                    byte 14 3 4 9,
                    (
                      byte 3 4 9 14,
                      (
                        byte 8 13 2 7,
                        (
                          byte 13 2 7 8,
                          (
                            byte 2 7 8 13,
                            (
                              byte 7 8 13 2,
                              (byte 12 1 6 11, (byte 1 6 11 12, (byte 6 11 12 1, (byte 11 12 1 6, tt)))),
                            ),
                          ),
                        ),
                      ),
                    ),
                  ),
                ),
              ),
            ),
          ),
        ),
      );
    }

mixed_state : (s : List ℕ) → IsState s → IsState (mix_columns (scrambled s))
mixed_state s h = subst (λ (t : List ℕ). IsState (mix_columns (scrambled t))) (sym (sixteen s h.size))
    (each_mixed s (λ i. lane_fits s i h.fits))

plus_length : (a b : List ℕ) → length a ≡ length b → length (plus_bytes a b) ≡ length a
unfolding plus_bytes
plus_length [] b e = refl
plus_length (x ∷ a) [] e = absurd (omega arith)
plus_length (x ∷ a) (y ∷ b) e = ap suc (plus_length a b (omega arith))

plus_fits : (a b : List ℕ) → Each1 (Fits w8) a → Each1 (Fits w8) b → Each1 (Fits w8) (plus_bytes a b)
unfolding plus_bytes
plus_fits [] b ha hb = tt
plus_fits (x ∷ a) [] ha hb = tt
plus_fits (x ∷ a) (y ∷ b) ha hb = (record { fits = xor_of_8 x y ha.0.fits hb.0.fits }, plus_fits a b ha.1 hb.1)

plus_state : (a b : List ℕ) → IsState a → IsState b → IsState (plus_bytes a b)
plus_state a b ha hb = record { size = plus_length a b (ha.size ∙ sym hb.size) ∙ ha.size; fits = plus_fits a b ha.fits hb.fits }

-- ---- the constant of the S-box, added twice

twice_added : (a b : ℕ) → bit_xor (bit_xor a 0x63) (bit_xor b 0x63) ≡ bit_xor a b
twice_added a b = across a 0x63 b 0x63 ∙ xor_zero_r (bit_xor a b)

cancelled : (n : ℕ) (a b : List ℕ) → length a ≡ n → length b ≡ n
    → zip2 bit_xor (plus_bytes a (replicate n 0x63)) (plus_bytes b (replicate n 0x63)) ≡ plus_bytes a b
unfolding plus_bytes
cancelled n [] b ha hb = refl
cancelled zero (x ∷ a) b ha hb = absurd (omega arith)
cancelled (suc n) (x ∷ a) [] ha hb = absurd (omega arith)
cancelled (suc n) (x ∷ a) (y ∷ b) ha hb = cons (twice_added x y) (cancelled n a b (omega arith) (omega arith))

tower_cancelled : (n : ℕ) (a b : List ℕ) → length a ≡ n → length b ≡ n → Each1 (Fits w8) a → Each1 (Fits w8) b
    → zip2 bit_xor (map tower (plus_bytes a (replicate n 0x63))) (map tower (plus_bytes b (replicate n 0x63))) ≡ map tower (plus_bytes a b)
unfolding plus_bytes
tower_cancelled n [] b ha hb fa fb = refl
tower_cancelled zero (x ∷ a) b ha hb fa fb = absurd (omega arith)
tower_cancelled (suc n) (x ∷ a) [] ha hb fa fb = absurd (omega arith)
tower_cancelled (suc n) (x ∷ a) (y ∷ b) ha hb fa fb =
    cons (sym (tower_sum (bit_xor x 0x63) (bit_xor y 0x63) (xor_of_8 x 0x63 fa.0.fits (omega arith))
    (xor_of_8 y 0x63 fb.0.fits (omega arith)))
    ∙ ap tower (twice_added x y))
    (tower_cancelled n a b (omega arith) (omega arith) fa.1 fb.1)

-- ---- keys

pub key_is : (words : List ℕ) (n : ℕ) → ((k : ℕ) → Fits w8 (get_or words k 0)) → 16 * n + 16 ≤ length words
    → HasKey words n (zip2 bit_xor (take 16 (drop (16 * n) words)) (replicate 16 0x63))
unfolding round_key
key_is words n fits room =
    let size : 16 ≡ 16 * n + 16 - 16 * n = omega arith in
    let whole : take 16 (drop (16 * n) words) ≡ round_key words n = ap (λ (k : ℕ). take k (drop (16 * n) words)) size in
    record {
      good = subst IsState whole (record { size = length-chunk (16 * n) 16 words room; fits = chunk-fits w8 (16 * n) 16 words fits });
      same = plus_is (take 16 (drop (16 * n) words)) (replicate 16 0x63) ∙ ap (λ (k : List ℕ). plus_bytes k (replicate 16 0x63)) whole;
    }

-- ---- states

pub begun_is : (words block : List ℕ) → ((k : ℕ) → Fits w8 (get_or words k 0)) → 16 ≤ length words → IsState block
    → IsAfter words 0 block (map tower (zip2 bit_xor block (take 16 words)))
unfolding rounds round_key
begun_is words block fits room state = record {
  good = plus_state block (take 16 words) state (record { size = length-chunk 0 16 words room; fits = chunk-fits w8 0 16 words fits });
  same = ap (map tower) (plus_is block (take 16 words));
}

pub advanced_is : (words block plain state key mixed : List ℕ) (n : ℕ) → IsAfter words n block state
    → HasKey words (suc n) plain → key ≡ map tower plain
    → mixed ≡ map tower (plus_bytes (mix_columns (scrambled (rounds words n block))) (replicate 16 0x63))
    → IsAfter words (suc n) block (zip2 bit_xor mixed key)
unfolding rounds
advanced_is words block plain state key mixed n after has k m =
    let good = mixed_state (rounds words n block) after.good in
    record {
      good = plus_state _ _ good has.good;
      same =
          ap₂ (zip2 bit_xor) m (k ∙ ap (map tower) has.same)
          ∙ tower_cancelled 16 (mix_columns (scrambled (rounds words n block)))
          (round_key words (suc n)) good.size has.good.size good.fits has.good.fits;
    }

scrambled_length : (s : List ℕ) → length (scrambled s) ≡ 16
unfolding scrambled shift_rows
scrambled_length s = refl

pub ended_is : (words block key last : List ℕ) (n : ℕ) → HasKey words (suc n) key
    → last ≡ plus_bytes (scrambled (rounds words n block)) (replicate 16 0x63) → zip2 bit_xor last key ≡ cipher words n block
unfolding cipher
ended_is words block key last n has l =
    ap₂ (zip2 bit_xor) l has.same
    ∙ cancelled 16 (scrambled (rounds words n block)) (round_key words (suc n)) (scrambled_length (rounds words n block)) has.good.size
