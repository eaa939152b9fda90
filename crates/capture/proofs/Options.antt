-- Options of an interface, as bytes and as a clock.
use Rattle.std.proofs.Common.{◌≡◌, ◌≢◌, ℕ, zero, suc, ◌+◌, ◌-◌, ◌*◌, ◌/◌, ◌%◌, ◌^◌, ◌<◌, ◌≤◌, ◌==◌, true, false, nat_lt, List, [], ◌++◌}
use Rattle.std.proofs.Common.{length, take, drop, refl, sym, ap, subst, ◌∙◌, append_assoc, length-append, length-drop, arith}
use Rattle.std.specs.Prelude.{Bool, Option, Some, if◌then◌else◌}
use Rattle.std.proofs.Math.Seq.{take-append_seam}
use Rattle.std.proofs.lemmas.Bool.{le-ltb, ltb-false, ltb-true, ne_eqb, eqb-true, eqb-false}
use Rattle.std.proofs.lemmas.List.{drop_at, take-append-drop, length-take-le, drop-drop, nil_from_length}
use Rattle.capture.specs.declared.clock.Clock.{Clock}
use Rattle.capture.specs.declared.order.Order.{Order}
use Rattle.capture.specs.declared.order.Order.TheVariants.{Big, Little}
use Rattle.capture.specs.Clock.{option_code, value_len, option_value, option_len, with_option, with_options}
use Rattle.capture.specs.PcapText.{number_bytes}
use Rattle.capture.specs.PcapngText.{option_bytes, OptionsText}
use Rattle.capture.specs.PcapngText.OptionsText.{nothing, ended, option}
use Rattle.capture.specs.Taking.{field}
use Rattle.capture.specs.Whole.{AreBytes}
use Rattle.capture.proofs.Inverting.{some_same}
use Rattle.capture.proofs.NumberBytes.{number_back, number_len, part_written, front_written, number_low, bytes_drop}

-- two numbers of 2 bytes
abbrev two_bytes : Order → ℕ → ℕ → List ℕ
two_bytes order a b = number_bytes order 2 a ++ number_bytes order 2 b

two_len : (order : Order) (a b : ℕ) → length (two_bytes order a b) ≡ 4
two_len Big a b = refl
two_len Little a b = refl

two_first : (order : Order) (a b : ℕ) (rest : List ℕ) → a < 2 ^ 16 → field order 0 2 (two_bytes order a b ++ rest) ≡ a
two_first Big a b rest low = number_back Big 2 a (number_bytes Big 2 b ++ rest) low
two_first Little a b rest low = number_back Little 2 a (number_bytes Little 2 b ++ rest) low

two_next : (order : Order) (a b : ℕ) (rest : List ℕ) → b < 2 ^ 16 → field order 2 2 (two_bytes order a b ++ rest) ≡ b
two_next Big a b rest low = number_back Big 2 b rest low
two_next Little a b rest low = number_back Little 2 b rest low

two_drop : (order : Order) (a b : ℕ) (rest : List ℕ) → drop 4 (two_bytes order a b ++ rest) ≡ rest
two_drop order a b rest = drop_at (two_bytes order a b) rest 4 (two_len order a b)

ended_code : (order : Order) (rest : List ℕ) → field order 0 2 (number_bytes order 2 0 ++ rest) ≡ 0
ended_code Big rest = refl
ended_code Little rest = refl

pub options_back : (order : Order) (old new : Clock) (bytes : List ℕ) → OptionsText order old bytes new
    → (n : ℕ) → length bytes < n → with_options n order bytes old ≡ Some new
unfolding with_options
options_back order old new bytes text zero few = absurd (omega (arith, few))
options_back order old new bytes (nothing clock) (suc n) few = refl
options_back order old new bytes (ended clock rest long) (suc n) few =
    let size = number_len order 2 0 in
    let all : length (number_bytes order 2 0 ++ rest) ≡ 2 + length rest =
    length-append (number_bytes order 2 0) rest ∙ ap (λ (k : ℕ). k + length rest) size in
    let enough : nat_lt (length (number_bytes order 2 0 ++ rest)) 4 ≡ false = le-ltb _ _ (omega (arith, all, long)) in
    rw (enough, ended_code order rest) refl
options_back order old new bytes (option before after code value padding more some low short few_more even text) (suc n) few =
    let front = two_bytes order code (length value) in
    let now = option_bytes order code value padding ++ more in
    let parts : now ≡ front ++ (value ++ (padding ++ more)) =
    append_assoc (front ++ value) padding more ∙ append_assoc front value (padding ++ more) in
    let code_is : field order 0 2 now ≡ code =
    ap (field order 0 2) parts ∙ two_first order code (length value) (value ++ (padding ++ more)) low in
    let len_is : field order 2 2 now ≡ length value =
    ap (field order 2 2) parts ∙ two_next order code (length value) (value ++ (padding ++ more)) short in
    let behind : drop 4 now ≡ value ++ (padding ++ more) =
    ap (drop 4) parts ∙ two_drop order code (length value) (value ++ (padding ++ more)) in
    let value_is : take (length value) (drop 4 now) ≡ value = ap (take (length value)) behind ∙ take-append_seam value (padding ++ more) in
    let total : 4 + (length value + 3) / 4 * 4 ≡ 4 + (length value + length padding) = omega (arith, few_more, even) in
    let whole : length (option_bytes order code value padding) ≡ 4 + (length value + length padding) =
    omega (arith, length-append (front ++ value) padding, length-append front value, two_len order code (length value)) in
    let rest : drop (4 + (length value + 3) / 4 * 4) now ≡ more =
    drop_at (option_bytes order code value padding) more _ (whole ∙ sym total) in
    let all : length now ≡ length (option_bytes order code value padding) + length more =
    length-append (option_bytes order code value padding) more in
    let enough : nat_lt (length now) 4 ≡ false = le-ltb _ _ (omega (arith, all, whole)) in
    let other : (code == 0) ≡ false = ne_eqb code 0 (λ e. omega (arith, e, some)) in
    let fits : nat_lt (length now) (4 + (length value + 3) / 4 * 4) ≡ false = le-ltb _ _ (omega (arith, all, whole, total)) in
    rw (enough, code_is, other, len_is, fits, rest, value_is)
    (options_back order (with_option order code value before) after more text n (omega (arith, all, whole, few)))

-- ---- and back

chosen : (P : Type 0) (b : Bool) (x y : Option Clock) (z : Clock) → (if b then x else y) ≡ Some z
    → (b ≡ true → x ≡ Some z → P) → (b ≡ false → y ≡ Some z → P) → P
chosen P true x y z e f g = f refl e
chosen P false x y z e f g = g refl e

-- an option that is there
record IsOption (order : Order) (bytes : List ℕ) : Type 0 where
  padding : List ℕ
  parts : bytes ≡ option_bytes order (option_code order bytes) (option_value order bytes) padding ++ drop (option_len order bytes) bytes
  short : length (option_value order bytes) < 2 ^ 16
  few : length padding < 4
  even : (length (option_value order bytes) + length padding) % 4 ≡ 0

option_read : (order : Order) (bytes : List ℕ) → AreBytes bytes → 4 ≤ length bytes → option_len order bytes ≤ length bytes
    → IsOption order bytes
option_read order bytes are long fits =
    let code = option_code order bytes in
    let len = value_len order bytes in
    let value = option_value order bytes in
    let gap = (len + 3) / 4 * 4 - len in
    let tail = drop (4 + len) bytes in
    let padding = take gap tail in
    let low : len < 2 ^ 16 = number_low order 2 (drop 2 bytes) (bytes_drop 2 bytes are) in
    let total : 4 + len + gap ≡ option_len order bytes = omega arith in
    let value_long : length value ≡ len = length-take-le len (drop 4 bytes) (omega (arith, length-drop 4 bytes, fits)) in
    let padding_long : length padding ≡ gap = length-take-le gap tail (omega (arith, length-drop (4 + len) bytes, fits)) in
    let behind : drop 4 bytes ≡ value ++ (padding ++ drop (option_len order bytes) bytes) =
    sym (take-append-drop len (drop 4 bytes))
    ∙ ap (λ (l : List ℕ). value ++ l) (drop-drop len 4 bytes ∙ sym (take-append-drop gap tail)
    ∙ ap (λ (l : List ℕ). padding ++ l) (drop-drop gap (4 + len) bytes ∙ ap (λ k. drop k bytes) total)) in
    let front : bytes ≡ number_bytes order 2 code ++ (number_bytes order 2 len ++ drop 4 bytes) =
    front_written order 2 bytes are (omega (arith, long))
    ∙ ap (λ (l : List ℕ). number_bytes order 2 code ++ l) (part_written order 2 2 bytes are (omega (arith, long))) in
    let rest = drop (option_len order bytes) bytes in
    record {
      padding = padding;
      parts = front
          ∙ ap (λ (l : List ℕ). number_bytes order 2 code ++ (number_bytes order 2 len ++ l)) behind
          ∙ ap (λ k. number_bytes order 2 code ++ (number_bytes order 2 k ++ (value ++ (padding ++ rest)))) (sym value_long)
          ∙ sym (append_assoc (number_bytes order 2 code) (number_bytes order 2 (length value)) (value ++ (padding ++ rest)))
          ∙ sym (append_assoc (two_bytes order code (length value)) value (padding ++ rest))
          ∙ sym (append_assoc (two_bytes order code (length value) ++ value) padding rest);
      short = omega (arith, value_long, low);
      few = omega (arith, padding_long);
      even = omega (arith, value_long, padding_long);
    }

pub options_text : (n : ℕ) (order : Order) (bytes : List ℕ) (old new : Clock) → AreBytes bytes → length bytes % 4 ≡ 0
    → with_options n order bytes old ≡ Some new → OptionsText order old bytes new
unfolding with_options
options_text zero order bytes old new are even e = absurd cc
options_text (suc n) order bytes old new are even e =
    chosen (OptionsText order old bytes new) (nat_lt (length bytes) 4) _ _ new e
    (λ short same. none (ltb-true _ _ short) (some_same old new same))
    (λ long more. chosen (OptionsText order old bytes new) (option_code order bytes == 0) _ _ new more
    (λ zero_code same. last (ltb-false _ _ long) (eqb-true _ _ zero_code) (some_same old new same))
    (λ other behind. chosen (OptionsText order old bytes new) (nat_lt (length bytes) (option_len order bytes)) _ _ new behind
    (λ over absent. absurd cc) (λ fits rest. one (ltb-false _ _ long) (eqb-false _ _ other) (ltb-false _ _ fits)
    (λ are_more left. options_text n order (drop (option_len order bytes) bytes)
    (with_option order (option_code order bytes) (option_value order bytes) old) new are_more left rest))))
  where
    none : length bytes < 4 → old ≡ new → OptionsText order old bytes new
    none short same =
        let empty : bytes ≡ [] = nil_from_length bytes (omega (arith, short, even)) in
        rw (empty, ← same) (nothing old)

    last : 4 ≤ length bytes → option_code order bytes ≡ 0 → old ≡ new → OptionsText order old bytes new
    last long zero_code same =
        let parts : bytes ≡ number_bytes order 2 0 ++ drop 2 bytes =
        front_written order 2 bytes are (omega (arith, long)) ∙ ap (λ k. number_bytes order 2 k ++ drop 2 bytes) zero_code in
        subst (λ (b : List ℕ). OptionsText order old b new) (sym parts)
        (subst (λ (c : Clock). OptionsText order old (number_bytes order 2 0 ++ drop 2 bytes) c) same
        (ended old (drop 2 bytes) (omega (arith, long, length-drop 2 bytes))))

    one : 4 ≤ length bytes → option_code order bytes ≢ 0 → option_len order bytes ≤ length bytes
        → (AreBytes (drop (option_len order bytes) bytes) → length (drop (option_len order bytes) bytes) % 4 ≡ 0
        → OptionsText order (with_option order (option_code order bytes) (option_value order bytes) old)
        (drop (option_len order bytes) bytes) new)
        → OptionsText order old bytes new
    one long other fits again =
        let k = option_read order bytes are long fits in
        let more = drop (option_len order bytes) bytes in
        let some : 0 < option_code order bytes = omega (arith, other) in
        let left : length more % 4 ≡ 0 = omega (arith, length-drop (option_len order bytes) bytes, even, fits) in
        let later = again (bytes_drop (option_len order bytes) bytes are) left in
        subst (λ (b : List ℕ). OptionsText order old b new) (sym k.parts)
        (option old new (option_code order bytes) (option_value order bytes) k.padding more some
        (number_low order 2 (drop 0 bytes) (bytes_drop 0 bytes are)) k.short k.few k.even later)
