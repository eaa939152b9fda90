-- The square of a difference is that of the difference the other way round.
use Rattle.std.proofs.Common.{◌≡◌, ℕ, zero, suc, ◌+◌, ◌-◌, ◌*◌, ◌^◌, ℤ, pos, Bool, true, false, not, ◌&&◌, nat_eq, cond}
use Rattle.std.proofs.Common.{if◌then◌else◌, None, List, [], ◌∷◌, length, refl, sym, ap, ◌∙◌, arith}
use Rattle.std.proofs.Math.Nat.{mul_comm, add_comm}
use Rattle.std.proofs.Math.Dec.{ltb}
use Rattle.std.proofs.lemmas.Bool.Decides.{nat_tests}
use Rattle.std.specs.Float.{Float, binary64, nan, inf, fin, sqrt, float_zero}
use Rattle.std.specs.Float.Ieee.{add, sub, mul, neg, sum, round, units, odd, prec, low, up, down, emax}
use Rattle.serf_message.specs.Coordinates.{CoordinateValue}
use Rattle.serf_view.specs.RoundTrip.{number, is_valid, are_comparable, difference, square, squares_after, magnitude}
use Rattle.serf_view.specs.RoundTrip.{plus_both, raw_distance, if_positive, distance, a_billion, whole_of}
use Rattle.serf_view.specs.RoundTrip.{round_trip_of}

signs_square : (s t : Bool) (m : ℕ) (e : ℤ) → square (fin s m e) ≡ square (fin t m e)
unfolding mul
signs_square true true m e = refl
signs_square true false m e = refl
signs_square false true m e = refl
signs_square false false m e = refl

infinite_square : (s t : Bool) → square (inf s) ≡ square (inf t)
unfolding mul
infinite_square true true = refl
infinite_square true false = refl
infinite_square false true = refl
infinite_square false false = refl

odd_square : (d : ℕ) (s t : Bool) (q k l : ℕ) → square (odd d s q k l) ≡ square (odd d t q k l)
unfolding odd
odd_square d s t zero k l = signs_square s t 0 (pos 0)
odd_square d s t (suc q) k l = signs_square s t _ _

units_square : (s t : Bool) (q k : ℕ) → square (units binary64 s q k) ≡ square (units binary64 t q k)
unfolding units
units_square s t q k = by_test (ltb (q * 2 ^ k) (2 ^ (low binary64 + suc (emax binary64))))
  where
    by_test : (b : Bool) → square (cond b (odd (suc (prec binary64)) s q k (low binary64)) (inf s))
        ≡ square (cond b (odd (suc (prec binary64)) t q k (low binary64)) (inf t))
    by_test true = odd_square (suc (prec binary64)) s t q k (low binary64)
    by_test false = infinite_square s t

round_square : (s t : Bool) (n d : ℕ) → square (round binary64 s n d) ≡ square (round binary64 t n d)
unfolding round
round_square s t n d = units_square s t _ _

-- ---- two numbers of different signs, one from the other

unlike_square : (a b c : ℕ) (u v w x : Bool)
    → square (cond (ltb a b) (round binary64 u (b - a) c) (round binary64 v (a - b) c))
    ≡ square (cond (ltb b a) (round binary64 w (a - b) c) (round binary64 x (b - a) c))
unlike_square a b c u v w x = by_tests (ltb a b) (ltb b a) refl refl
  where
    both : ltb a b ≡ true → ltb b a ≡ true → ⊥
    both e f = grind (arith, nat_tests)

    neither : ltb a b ≡ false → ltb b a ≡ false → a - b ≡ b - a
    neither e f = grind (arith, nat_tests)

    by_tests : (p q : Bool) → ltb a b ≡ p → ltb b a ≡ q
        → square (cond p (round binary64 u (b - a) c) (round binary64 v (a - b) c))
        ≡ square (cond q (round binary64 w (a - b) c) (round binary64 x (b - a) c))
    by_tests true true e f = absurd (both e f)
    by_tests true false e f = round_square u x (b - a) c
    by_tests false true e f = round_square v w (a - b) c
    by_tests false false e f = round_square v x (a - b) c ∙ ap (λ n. square (round binary64 x n c)) (neither e f)

like_square : (a b c : ℕ) (u v : Bool) → square (round binary64 u (a + b) c) ≡ square (round binary64 v (b + a) c)
like_square a b c u v = round_square u v (a + b) c ∙ ap (λ n. square (round binary64 v n c)) (add_comm a b)

sum_square : (s t : Bool) (a b c : ℕ)
    → square (sum binary64 s a (not t) b c) ≡ square (sum binary64 t b (not s) a c)
unfolding sum
sum_square true true a b c = unlike_square a b c _ _ _ _
sum_square false false a b c = unlike_square a b c _ _ _ _
sum_square true false a b c = like_square a b c true false
sum_square false true a b c = like_square a b c false true

sub_square : (x y : Float) → square (sub binary64 x y) ≡ square (sub binary64 y x)
unfolding sub add neg
sub_square nan nan = refl
sub_square nan (inf t) = refl
sub_square nan (fin t n d) = refl
sub_square (inf s) nan = refl
sub_square (inf true) (inf true) = refl
sub_square (inf true) (inf false) = infinite_square true false
sub_square (inf false) (inf true) = infinite_square false true
sub_square (inf false) (inf false) = refl
sub_square (inf s) (fin t n d) = infinite_square s (not s)
sub_square (fin s m e) nan = refl
sub_square (fin s m e) (inf t) = infinite_square (not t) t
sub_square (fin s m e) (fin t n d) =
    sum_square s t (m * up e * down d) (n * up d * down e) (down e * down d)
    ∙ ap (λ c. square (sum binary64 t (n * up d * down e) (not s) (m * up e * down d) c)) (mul_comm (down e) (down d))

-- ---- two places, and two members

squares_swap : (start : Float) (xs ys : List ℕ) → squares_after start xs ys ≡ squares_after start ys xs
squares_swap start [] [] = refl
squares_swap start [] (y ∷ ys) = refl
squares_swap start (x ∷ xs) [] = refl
squares_swap start (x ∷ xs) (y ∷ ys) =
    ap (λ q. squares_after (add binary64 start q) xs ys) (sub_square (number x) (number y))
    ∙ squares_swap (add binary64 start (square (difference y x))) xs ys

pub magnitude_swap : (xs ys : List ℕ) → magnitude xs ys ≡ magnitude ys xs
magnitude_swap xs ys = ap (sqrt binary64) (squares_swap float_zero xs ys)

plus_both_swap : (x : Float) (a b : ℕ) → a ≡ b → plus_both x a b ≡ plus_both x b a
plus_both_swap x a b e = ap (λ h. plus_both x h b) e ∙ sym (ap (λ h. plus_both x b h) e)

raw_distance_swap : (one other : CoordinateValue) → one.height ≡ other.height → raw_distance one other ≡ raw_distance other one
raw_distance_swap one other e =
    plus_both_swap (magnitude one.vec other.vec) one.height other.height e
    ∙ ap (λ x. plus_both x other.height one.height) (magnitude_swap one.vec other.vec)

distance_swap : (one other : CoordinateValue) → one.height ≡ other.height → one.adjustment ≡ other.adjustment
    → distance one other ≡ distance other one
distance_swap one other e f =
    ap (λ a. if_positive a (raw_distance one other))
    (plus_both_swap (raw_distance one other) one.adjustment other.adjustment f)
    ∙ ap (λ r. if_positive (plus_both r other.adjustment one.adjustment) r) (raw_distance_swap one other e)

are_comparable_swap : (one other : CoordinateValue) → are_comparable one other ≡ are_comparable other one
are_comparable_swap one other =
    ap (λ l. (l && is_valid one) && is_valid other) (same (length one.vec) (length other.vec))
    ∙ either (nat_eq (length other.vec) (length one.vec)) (is_valid one) (is_valid other)
  where
    same : (k l : ℕ) → nat_eq k l ≡ nat_eq l k
    same k l = grind (arith, nat_tests)

    either : (l a b : Bool) → ((l && a) && b) ≡ ((l && b) && a)
    either true true true = refl
    either true true false = refl
    either true false true = refl
    either true false false = refl
    either false a b = refl

pub round_trip_swap : (one other : CoordinateValue) → one.height ≡ other.height → one.adjustment ≡ other.adjustment
    → round_trip_of one other ≡ round_trip_of other one
round_trip_swap one other e f =
    ap (λ b. if b then whole_of (mul binary64 (distance one other) a_billion) else None) (are_comparable_swap one other)
    ∙ ap (λ d. if are_comparable other one then whole_of (mul binary64 d a_billion) else None) (distance_swap one other e f)
