-- One step of a product, and of a hash.
use Rattle.std.proofs.Common.{◌≡◌, ℕ, zero, suc, ◌+◌, ◌-◌, ◌/◌, ◌%◌, ◌^◌, ◌<◌, ◌≤◌, [], ◌∷◌, ◌++◌, get_or, add-one}
use Rattle.std.proofs.Common.{◌==◌, if◌then◌else◌, bit_xor, List, length, take, drop, sym, ap, ap₂, ◌∙◌, arith}
use Rattle.std.proofs.Common.{append_assoc, length-drop}
use Rattle.std.specs.Int.{bit_at}
use Rattle.std.proofs.Math.Seq.{drop-cons}
use Rattle.std.proofs.lemmas.List.{drop_all, take_all, drop-drop, append-nil}
use Rattle.memberlist_cipher.specs.Block.{plus_bytes}
use Rattle.memberlist_cipher.specs.Gcm.{times_x, steps, block_product, block, blocks, hashed, hash, counter_block, counted, counted_all}

pub step : (n x z v : ℕ) → 0 < n → steps n x z v ≡ steps (n - 1) x (if bit_at x (n - 1) == 1 then bit_xor z v else z) (times_x v)
unfolding steps
step zero x z v some = absurd (omega arith)
step (suc n) x z v some =
    let e : n ≡ suc n - 1 = omega arith in
    ap (λ k. steps k x (if bit_at x k == 1 then bit_xor z v else z) (times_x v)) e

one_more : (bytes : List ℕ) → 0 < length bytes → blocks bytes ≡ suc (blocks (drop 16 bytes))
unfolding blocks
one_more bytes some = omega (arith, length-drop 16 bytes)

pub hash_step : (h y : ℕ) (bytes : List ℕ) → 0 < length bytes
    → hash h y bytes ≡ hash h (block_product (bit_xor y (block bytes)) h) (drop 16 bytes)
unfolding hash hashed
hash_step h y bytes some = ap (λ n. hashed n h y bytes) (one_more bytes some)

pub hash_end : (h y : ℕ) (bytes : List ℕ) → length bytes ≡ 0 → hash h y bytes ≡ y
unfolding hash hashed blocks
hash_end h y bytes none =
    let e : (length bytes + 15) / 16 ≡ 0 = omega arith in
    ap (λ n. hashed n h y bytes) e

pub plus_step : (i : ℕ) (xs ys : List ℕ) → i < length xs → i < length ys
    → plus_bytes (drop i xs) (drop i ys) ≡ bit_xor (get_or xs i 0) (get_or ys i 0) ∷ plus_bytes (drop (i + 1) xs) (drop (i + 1) ys)
unfolding plus_bytes
plus_step i xs ys a b = rw add-one (ap₂ plus_bytes (drop-cons xs i 0 a) (drop-cons ys i 0 b))

pub plus_end : (i : ℕ) (xs ys : List ℕ) → length xs ≤ i → plus_bytes (drop i xs) ys ≡ []
unfolding plus_bytes
plus_end i xs ys past = ap (λ zs. plus_bytes zs ys) (drop_all i xs past)

pub counted_step : (f : List ℕ → List ℕ) (nonce : List ℕ) (c : ℕ) (bytes : List ℕ) → 0 < length bytes
    → counted_all f nonce c bytes ≡ plus_bytes (take 16 bytes)
    (f (counter_block nonce c)) ++ counted_all f nonce ((c + 1) % 2 ^ 32) (drop 16 bytes)
unfolding counted_all counted
counted_step f nonce c bytes some = ap (λ n. counted n f nonce c bytes) (one_more bytes some)

pub counted_end : (f : List ℕ → List ℕ) (nonce : List ℕ) (c : ℕ) (bytes : List ℕ) → length bytes ≡ 0 → counted_all f nonce c bytes ≡ []
unfolding counted_all counted blocks
counted_end f nonce c bytes none =
    let e : (length bytes + 15) / 16 ≡ 0 = omega arith in
    ap (λ n. counted n f nonce c bytes) e

-- ---- four blocks

four_joined : (p q r s t : List ℕ) → (p ++ (q ++ (r ++ (s ++ [])))) ++ t ≡ p ++ (q ++ (r ++ (s ++ t)))
four_joined p q r s t =
    append_assoc p (q ++ (r ++ (s ++ []))) t
    ∙ ap (λ (x : List ℕ). p ++ x) (append_assoc q (r ++ (s ++ [])) t
    ∙ ap (λ (x : List ℕ). q ++ x) (append_assoc r (s ++ []) t ∙ ap (λ (x : List ℕ). r ++ x) (append_assoc s [] t)))

thrice_dropped : (bytes : List ℕ) → drop 16 (drop 16 (drop 16 bytes)) ≡ drop 48 bytes
thrice_dropped bytes = ap (drop 16) (drop-drop 16 16 bytes) ∙ drop-drop 16 32 bytes

pub counted_four : (f : List ℕ → List ℕ) (nonce : List ℕ) (c : ℕ) (bytes : List ℕ) → 64 ≤ length bytes
    → counted_all f nonce c bytes ≡ counted 4 f nonce c bytes ++ counted_all f nonce ((c + 4) % 2 ^ 32) (drop 64 bytes)
unfolding counted
counted_four f nonce c bytes some =
    let b1 = drop 16 bytes in
    let b2 = drop 16 b1 in
    let b3 = drop 16 b2 in
    let s1 : length b1 ≡ length bytes - 16 = length-drop 16 bytes in
    let s2 : length b2 ≡ length b1 - 16 = length-drop 16 b1 in
    let s3 : length b3 ≡ length b2 - 16 = length-drop 16 b2 in
    let c1 = (c + 1) % 2 ^ 32 in
    let c2 = (c1 + 1) % 2 ^ 32 in
    let c3 = (c2 + 1) % 2 ^ 32 in
    let part = λ (n : ℕ) (bs : List ℕ). plus_bytes (take 16 bs) (f (counter_block nonce n)) in
    let last : (c3 + 1) % 2 ^ 32 ≡ (c + 4) % 2 ^ 32 = omega arith in
    let back : drop 16 b3 ≡ drop 64 bytes = ap (drop 16) (thrice_dropped bytes) ∙ drop-drop 16 48 bytes in
    counted_step f nonce c bytes (omega arith)
    ∙ ap (λ (x : List ℕ). part c bytes ++ x) (counted_step f nonce c1 b1 (omega arith)
    ∙ ap (λ (x : List ℕ). part c1 b1 ++ x) (counted_step f nonce c2 b2 (omega arith)
    ∙ ap (λ (x : List ℕ). part c2 b2 ++ x) (counted_step f nonce c3 b3 (omega arith)
    ∙ ap₂ (λ (n : ℕ) (bs : List ℕ). part c3 b3 ++ counted_all f nonce n bs) last back)))
    ∙ sym (four_joined (part c bytes) (part c1 b1) (part c2 b2) (part c3 b3) (counted_all f nonce ((c + 4) % 2 ^ 32) (drop 64 bytes)))

pub tail_is : (k : ℕ) (bytes : List ℕ) → take (length bytes - k) (drop k bytes) ≡ drop k bytes
tail_is k bytes = take_all (length bytes - k) (drop k bytes) (omega (arith, length-drop k bytes))

-- the same four blocks, each by its place
pub four_parts : (f : List ℕ → List ℕ) (nonce : List ℕ) (c : ℕ) (bytes old p q r s : List ℕ)
    → p ≡ plus_bytes (take 16 bytes) (f (counter_block nonce c))
    → q ≡ plus_bytes (take 16 (drop 16 bytes)) (f (counter_block nonce ((c + 1) % 2 ^ 32)))
    → r ≡ plus_bytes (take 16 (drop 32 bytes)) (f (counter_block nonce ((c + 2) % 2 ^ 32)))
    → s ≡ plus_bytes (take 16 (drop 48 bytes)) (f (counter_block nonce ((c + 3) % 2 ^ 32)))
    → (((old ++ p) ++ q) ++ r) ++ s ≡ old ++ counted 4 f nonce c bytes
unfolding counted
four_parts f nonce c bytes old p q r s ep eq er es =
    let c1 = (c + 1) % 2 ^ 32 in
    let c2 = (c1 + 1) % 2 ^ 32 in
    let c3 = (c2 + 1) % 2 ^ 32 in
    let part = λ (n : ℕ) (bs : List ℕ). plus_bytes (take 16 bs) (f (counter_block nonce n)) in
    let third : (c + 2) % 2 ^ 32 ≡ c2 = omega arith in
    let fourth : (c + 3) % 2 ^ 32 ≡ c3 = omega arith in
    let b2 : drop 32 bytes ≡ drop 16 (drop 16 bytes) = sym (drop-drop 16 16 bytes) in
    let b3 : drop 48 bytes ≡ drop 16 (drop 16 (drop 16 bytes)) = sym (thrice_dropped bytes) in
    append_assoc ((old ++ p) ++ q) r s
    ∙ append_assoc (old ++ p) q (r ++ s)
    ∙ append_assoc old p (q ++ (r ++ s))
    ∙ ap (λ (x : List ℕ). old ++ x) (ap₂
    (λ (x y : List ℕ). x ++ y) ep (ap₂
    (λ (x y : List ℕ). x ++ y) eq (ap₂ (λ (x y : List ℕ). x ++ y) (er ∙ ap₂ part third b2)
    (es ∙ ap₂ part fourth b3 ∙ sym (append-nil (part c3 (drop 16 (drop 16 (drop 16 bytes)))))))))
