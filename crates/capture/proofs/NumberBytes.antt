-- Numbers as bytes in both orders, and back.
use Rattle.std.proofs.Common.{◌≡◌, ℕ, zero, suc, ◌+◌, ◌*◌, ◌/◌, ◌%◌, ◌^◌, ◌<◌, ◌≤◌, List, [], ◌∷◌, ◌++◌}
use Rattle.std.proofs.Common.{length, drop, refl, sym, ap, ap₂, ◌∙◌, arith}
use Rattle.std.proofs.Math.Nat.{div-one, mod-eq_of_lt, div-div-eq-div-mul, mul_assoc, one-le-pow, pow-succ'}
use Rattle.std.proofs.Math.Nat.{mul-add-div_right, mul-add-mod_self_right}
use Rattle.std.proofs.Math.Seq.{drop-append-add}
use Rattle.std.proofs.lemmas.Nat.{div-mul-add}
use Rattle.std.proofs.lemmas.List.{drop-drop, length-drop}
use Rattle.std.specs.Int.{byte_at, bytes_high_first, bytes_low_first}
use Rattle.byteorder.specs.Endian.{big_number, little_number}
use Rattle.byteorder.specs.Numbers.{big_from-cons, little_from-cons, big_from-lt, little_from-lt}
use Rattle.byteorder.specs.Numbers.{big_number-reads_back, little_number-reads_back}
use Rattle.byteorder.specs.Numbers.{length-bytes_high_first, length-bytes_low_first}
use Rattle.capture.specs.declared.order.Order.{Order}
use Rattle.capture.specs.declared.order.Order.TheVariants.{Big, Little}
use Rattle.capture.specs.Taking.{number, field}
use Rattle.capture.specs.PcapText.{number_bytes}
use Rattle.capture.specs.Whole.{AreBytes}

pow_pos : (n : ℕ) → zero < 256 ^ n
pow_pos n = let h = one-le-pow n 256 (omega arith) in omega arith

byte_is : (k x : ℕ) → byte_at k x ≡ x / 256 ^ k % 256
byte_is zero x = ap (λ (y : ℕ). y % 256) (sym (div-one x))
byte_is (suc k) x = refl

-- the lower bytes do not see what is above them
high_below : (n a r : ℕ) → bytes_high_first n (a * 256 ^ n + r) ≡ bytes_high_first n r
high_below zero a r = refl
high_below (suc n) a r =
    let c = 256 ^ n in
    let some : zero < c = pow_pos n in
    let moved : a * 256 ^ suc n + r ≡ a * 256 * c + r =
    ap (λ (p : ℕ). a * p + r) (pow-succ' 256 n) ∙ ap (λ (p : ℕ). p + r) (sym (mul_assoc a 256 c)) in
    let digit : (a * 256 * c + r) / c % 256 ≡ r / c % 256 =
    ap (λ (q : ℕ). q % 256) (mul-add-div_right some (a * 256) r) ∙ mul-add-mod_self_right a 256 (r / c) in
    let first : byte_at n (a * 256 ^ suc n + r) ≡ byte_at n r =
    ap (byte_at n) moved ∙ byte_is n (a * 256 * c + r) ∙ digit ∙ sym (byte_is n r) in
    let rest : bytes_high_first n (a * 256 ^ suc n + r) ≡ bytes_high_first n r =
    ap (bytes_high_first n) moved ∙ high_below n (a * 256) r in
    ap₂ (λ b (l : List ℕ). b ∷ l) first rest

-- the higher bytes do not see the lowest one
low_above : (j k x v : ℕ) → x < 256 → bytes_low_first (suc j) k (x + 256 * v) ≡ bytes_low_first j k v
low_above j zero x v small = refl
low_above j (suc k) x v small =
    let above : (x + 256 * v) / 256 ≡ v = omega (arith, small) in
    let digit : (x + 256 * v) / 256 ^ suc j % 256 ≡ v / 256 ^ j % 256 =
    ap (λ (p : ℕ). (x + 256 * v) / p % 256) (pow-succ' 256 j)
    ∙ ap (λ (q : ℕ). q % 256) (sym (div-div-eq-div-mul (x + 256 * v) 256 (256 ^ j)) ∙ ap (λ (q : ℕ). q / 256 ^ j) above) in
    ap₂ (λ b (l : List ℕ). b ∷ l) (digit ∙ sym (byte_is j v)) (low_above (suc j) k x v small)

tail : (x : ℕ) (xs : List ℕ) → AreBytes (x ∷ xs) → AreBytes xs
tail x xs h = λ k. h (suc k)

bytes_none : AreBytes []
bytes_none zero = omega arith
bytes_none (suc k) = omega arith

pub bytes_drop : (n : ℕ) (xs : List ℕ) → AreBytes xs → AreBytes (drop n xs)
bytes_drop zero xs h = h
bytes_drop (suc n) [] h = bytes_none
bytes_drop (suc n) (x ∷ xs) h = bytes_drop n xs (tail x xs h)

high_written : (n : ℕ) (xs : List ℕ) → AreBytes xs → n ≤ length xs
    → bytes_high_first n (big_number n xs) ++ drop n xs ≡ xs
high_written zero xs h long = refl
high_written (suc n) [] h long = absurd (omega (arith, long))
high_written (suc n) (x ∷ xs) h long =
    let c = 256 ^ n in
    let v = big_number n xs in
    let low : v < c = big_from-lt 0 n xs (tail x xs h) in
    let all : big_number (suc n) (x ∷ xs) ≡ x * c + v = ap (λ (r : ℕ). x * c + r) (big_from-cons 0 n x xs) in
    let first : byte_at n (x * c + v) ≡ x =
    byte_is n (x * c + v) ∙ ap (λ (q : ℕ). q % 256) (div-mul-add x c v low) ∙ mod-eq_of_lt (h 0) in
    let rest : bytes_high_first n (x * c + v) ++ drop n xs ≡ xs =
    ap (λ (l : List ℕ). l ++ drop n xs) (high_below n x v) ∙ high_written n xs (tail x xs h) (omega (arith, long)) in
    rw all (ap₂ (λ b (l : List ℕ). b ∷ l) first rest)

low_written : (n : ℕ) (xs : List ℕ) → AreBytes xs → n ≤ length xs
    → bytes_low_first 0 n (little_number n xs) ++ drop n xs ≡ xs
low_written zero xs h long = refl
low_written (suc n) [] h long = absurd (omega (arith, long))
low_written (suc n) (x ∷ xs) h long =
    let v = little_number n xs in
    let small : x < 256 = h 0 in
    let all : little_number (suc n) (x ∷ xs) ≡ x + 256 * v = ap (λ (r : ℕ). x + 256 * r) (little_from-cons 0 n x xs) in
    let first : byte_at 0 (x + 256 * v) ≡ x =
    byte_is 0 (x + 256 * v) ∙ ap (λ (q : ℕ). q % 256) (div-one (x + 256 * v)) ∙ omega (arith, small) in
    let rest : bytes_low_first 1 n (x + 256 * v) ++ drop n xs ≡ xs =
    ap (λ (l : List ℕ). l ++ drop n xs) (low_above 0 n x v small) ∙ low_written n xs (tail x xs h) (omega (arith, long)) in
    rw all (ap₂ (λ b (l : List ℕ). b ∷ l) first rest)

-- ---- in an order

pub number_len : (order : Order) (n x : ℕ) → length (number_bytes order n x) ≡ n
number_len Big n x = length-bytes_high_first n x
number_len Little n x = length-bytes_low_first 0 n x

pub number_back : (order : Order) (n x : ℕ) (rest : List ℕ) → x < 256 ^ n → number order n (number_bytes order n x ++ rest) ≡ x
number_back Big n x rest low = big_number-reads_back n x rest low
number_back Little n x rest low = little_number-reads_back n x rest low

pub number_low : (order : Order) (n : ℕ) (xs : List ℕ) → AreBytes xs → number order n xs < 256 ^ n
number_low Big n xs h = big_from-lt 0 n xs h
number_low Little n xs h = little_from-lt 0 n xs h

number_written : (order : Order) (n : ℕ) (xs : List ℕ) → AreBytes xs → n ≤ length xs
    → number_bytes order n (number order n xs) ++ drop n xs ≡ xs
number_written Big n xs h long = high_written n xs h long
number_written Little n xs h long = low_written n xs h long

-- the bytes from a place on are those of the number there, and the bytes behind it
pub part_written : (order : Order) (o n : ℕ) (xs : List ℕ) → AreBytes xs → o + n ≤ length xs
    → drop o xs ≡ number_bytes order n (field order o n xs) ++ drop (o + n) xs
part_written order o n xs h long =
    let fits : n ≤ length (drop o xs) = omega (arith, length-drop o xs, long) in
    sym (number_written order n (drop o xs) (bytes_drop o xs h) fits)
    ∙ ap (λ (l : List ℕ). number_bytes order n (field order o n xs) ++ l) (drop-drop n o xs)

drop_none : (xs : List ℕ) → drop 0 xs ≡ xs
drop_none [] = refl
drop_none (x ∷ xs) = refl

-- the same at the start
pub front_written : (order : Order) (n : ℕ) (xs : List ℕ) → AreBytes xs → n ≤ length xs
    → xs ≡ number_bytes order n (field order 0 n xs) ++ drop n xs
front_written order n xs h long =
    sym (number_written order n xs h long)
    ∙ ap (λ (l : List ℕ). number_bytes order n (number order n l) ++ drop n xs) (sym (drop_none xs))

-- a number behind a number
pub field_behind : (order : Order) (n x o k : ℕ) (rest : List ℕ)
    → field order (n + o) k (number_bytes order n x ++ rest) ≡ field order o k rest
field_behind order n x o k rest =
    let moved : drop (n + o) (number_bytes order n x ++ rest) ≡ drop o rest =
    ap (λ (m : ℕ). drop (m + o) (number_bytes order n x ++ rest)) (sym (number_len order n x))
    ∙ drop-append-add (number_bytes order n x) rest o in
    ap (number order k) moved

pub bytes_front : (xs ys : List ℕ) → AreBytes (xs ++ ys) → AreBytes xs
bytes_front [] ys h k = bytes_none k
bytes_front (x ∷ xs) ys h zero = h 0
bytes_front (x ∷ xs) ys h (suc k) = bytes_front xs ys (tail x (xs ++ ys) h) k

pub bytes_behind : (xs ys : List ℕ) → AreBytes (xs ++ ys) → AreBytes ys
bytes_behind [] ys h = h
bytes_behind (x ∷ xs) ys h = bytes_behind xs ys (tail x (xs ++ ys) h)
