-- Fields of a text, separated by a byte that none of them has.
use Rattle.std.proofs.Common.{◌≡◌, ◌≢◌, ℕ, zero, suc, ◌+◌, ◌%◌, ◌^◌, ◌<◌, ◌≤◌, List, [], ◌∷◌, ◌++◌, All, true, refl, ap, arith}
use Rattle.std.specs.Prelude.{decimal}
use Rattle.std.proofs.lemmas.Bool.Decides.{nat_tests}
use Rattle.std.proofs.lemmas.Fmt.{decimal_by_steps}
use Rattle.std.proofs.lemmas.List.Elements.{All-nil, All-cons, All-head, All-tail, All-append, All-weaker}
use Rattle.hex.specs.Hex.{encode_lower, is_hex_digit, decode_of, IsBytes}
use Rattle.hex.proofs.HexLemmas.{decode_of-encode_lower, decode_of-ok}

-- the text has no such byte
abbrev pub Lacks : ℕ → List ℕ → Type 0
Lacks separator text = All (λ b. b ≢ separator) text

-- the bytes are a minus, a slash, or those above, up to the letter f
abbrev pub IsFieldByte : ℕ → Type 0
IsFieldByte b = (45 ≤ b) × (b ≤ 102)

-- equal texts have the same first field, and the same rest
pub same_first : (separator : ℕ) (xs ys us vs : List ℕ) → Lacks separator xs → Lacks separator ys
    → xs ++ separator ∷ us ≡ ys ++ separator ∷ vs → (xs ≡ ys) × (us ≡ vs)
same_first separator [] [] us vs h g same = (refl, cc)
same_first separator [] (y ∷ ys) us vs h g same = absurd (All-head (λ b. b ≢ separator) y ys g (cc))
same_first separator (x ∷ xs) [] us vs h g same = absurd (All-head (λ b. b ≢ separator) x xs h (cc))
same_first separator (x ∷ xs) (y ∷ ys) us vs h g same =
    let first : x ≡ y = cc in
    let after : xs ++ separator ∷ us ≡ ys ++ separator ∷ vs = cc in
    let both = same_first separator xs ys us vs (All-tail (λ b. b ≢ separator) x xs h) (All-tail (λ b. b ≢ separator) y ys g) after in
    let rest = both.0 in
    (cc (first, rest), both.1)

-- ---- numbers in decimal

abbrev IsDecimalDigit : ℕ → Type 0
IsDecimalDigit b = (48 ≤ b) × (b ≤ 57)

pub All-decimal : (n : ℕ) → n < 2 ^ 64 → All (λ b. (48 ≤ b) × (b ≤ 57)) (decimal n)
All-decimal n small =
    decimal_by_steps (λ _ ds. All IsDecimalDigit ds)
    (λ d low. All-cons IsDecimalDigit (48 + d) [] (omega arith, omega arith) (All-nil IsDecimalDigit))
    (λ d ds high h. All-append IsDecimalDigit ds ((48 + d % 10) ∷ []) h
    (All-cons IsDecimalDigit (48 + d % 10) [] (omega arith, omega arith) (All-nil IsDecimalDigit)))
    n small

-- ---- bytes in hexadecimal

are_bytes : (bytes : List ℕ) → All (λ b. b < 256) bytes → IsBytes bytes
are_bytes [] h i = omega arith
are_bytes (b ∷ bytes) h zero = All-head (λ x. x < 256) b bytes h
are_bytes (b ∷ bytes) h (suc i) = are_bytes bytes (All-tail (λ x. x < 256) b bytes h) i

above_slash : (c : ℕ) → is_hex_digit c ≡ true → (48 ≤ c) × (c ≤ 102)
above_slash c h = (grind (arith, nat_tests), grind (arith, nat_tests))

pub All-encode_lower : (bytes : List ℕ) → All (λ b. b < 256) bytes → All (λ b. (48 ≤ b) × (b ≤ 102)) (encode_lower bytes)
All-encode_lower bytes h =
    let digits = (decode_of-ok (encode_lower bytes) bytes (decode_of-encode_lower bytes (are_bytes bytes h))).1 in
    All-weaker (λ c. is_hex_digit c ≡ true) (λ b. (48 ≤ b) × (b ≤ 102)) above_slash (encode_lower bytes) digits

pub encode_lower_injective : (xs ys : List ℕ) → All (λ b. b < 256) xs → All (λ b. b < 256) ys → encode_lower xs ≡ encode_lower ys → xs ≡ ys
encode_lower_injective xs ys h g same =
    let first = decode_of-encode_lower xs (are_bytes xs h) in
    let second = decode_of-encode_lower ys (are_bytes ys g) in
    let text = ap decode_of same in
    cc (first, second, text)
