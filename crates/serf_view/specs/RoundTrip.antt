-- Serf's estimate of a round trip (coordinate/coordinate.go), by the sums and products of IEEE 754.
use Rattle.std.specs.Prelude.{ℕ, pos, Bool, false, ◌&&◌, nat_eq, from_bits, if◌then◌else◌, List, [], ◌∷◌, length, Option, Some, None}
use Rattle.std.specs.List.{list_all}
use Rattle.std.specs.Float.{Float, binary64, fin, sqrt, float_zero, minus_one, two_to, float_is_finite, float_to_unsigned}
use Rattle.std.specs.Float.Ieee.{add, sub, mul, lt}
use Rattle.std.specs.Int.{w64}
use Rattle.serf_message.specs.Coordinates.{CoordinateValue}

-- the number with these bits
abbrev pub number : ℕ → Float
number bits = from_bits binary64 bits

-- componentIsValid: no NaN and no infinity
abbrev pub is_valid_number : ℕ → Bool
is_valid_number bits = float_is_finite (number bits)

-- IsValid
abbrev pub is_valid : CoordinateValue → Bool
is_valid c =
    list_all is_valid_number c.vec
    && ((is_valid_number c.error && is_valid_number c.adjustment) && is_valid_number c.height)

-- IsCompatibleWith, and IsValid of both
abbrev pub are_comparable : CoordinateValue → CoordinateValue → Bool
are_comparable one other =
    (nat_eq (length one.vec) (length other.vec) && is_valid one) && is_valid other

abbrev pub difference : ℕ → ℕ → Float
difference x y = sub binary64 (number x) (number y)

abbrev pub square : Float → Float
square x = mul binary64 x x

-- diff, magnitude: the sum, and then the squares of the differences, one after the other
abbrev pub squares_after : Float → List ℕ → List ℕ → Float
squares_after sum [] ys = sum
squares_after sum (x ∷ xs) [] = sum
squares_after sum (x ∷ xs) (y ∷ ys) =
    squares_after (add binary64 sum (square (difference x y))) xs ys

-- the Euclidean distance
abbrev pub magnitude : List ℕ → List ℕ → Float
magnitude xs ys = sqrt binary64 (squares_after float_zero xs ys)

abbrev pub plus_both : Float → ℕ → ℕ → Float
plus_both x one other = add binary64 (add binary64 x (number one)) (number other)

-- rawDistanceTo, in seconds
abbrev pub raw_distance : CoordinateValue → CoordinateValue → Float
raw_distance one other = plus_both (magnitude one.vec other.vec) one.height other.height

abbrev pub if_positive : Float → Float → Float
if_positive adjusted raw = if lt float_zero adjusted then adjusted else raw

-- DistanceTo, in seconds: the adjustments count if what they make is positive
abbrev pub distance : CoordinateValue → CoordinateValue → Float
distance one other =
    if_positive (plus_both (raw_distance one other) one.adjustment other.adjustment)
    (raw_distance one other)

-- secondsToNanoseconds: 1953125 * 2 ^ 9, which is 10 ^ 9
abbrev pub a_billion : Float
a_billion = fin false 1953125 (pos 9)

-- without its fraction, if that is a whole number of 64 bits
abbrev pub whole_of : Float → Option ℕ
whole_of x =
    if lt minus_one x && lt x (two_to 64) then Some (float_to_unsigned w64 x) else None

-- DistanceTo, in nanoseconds
abbrev pub round_trip_of : CoordinateValue → CoordinateValue → Option ℕ
round_trip_of one other =
    if are_comparable one other then whole_of (mul binary64 (distance one other) a_billion)
    else None
