-- The S-box by tables of 16 entries, as the code looks it up. A byte in the tower's basis has two
-- halves, and so has its inverse there, as two places in tables.
use Rattle.std.specs.Prelude.{ℕ, ◌/◌, Bool, ◌||◌, nat_lt, nat_le, List, slice_index, bit_and, bit_xor}
use Rattle.memberlist_cipher.specs.declared.tower.TheConstants.{LOW, HIGH, INVERSES, QUOTIENTS, PLAIN_FIRST}
use Rattle.memberlist_cipher.specs.declared.tower.TheConstants.{PLAIN_SECOND, ONCE_FIRST, ONCE_SECOND, TWICE_FIRST}
use Rattle.memberlist_cipher.specs.declared.tower.TheConstants.{TWICE_SECOND}

-- a place in a table, or one that stands for infinity
unfoldable pub is_place : ℕ → Bool
is_place place = nat_le 128 place || nat_lt place 16

-- a byte in the tower's basis
unfoldable pub tower : ℕ → ℕ
tower b = bit_xor (slice_index LOW (bit_and b 15)) (slice_index HIGH (b / 16))

unfoldable pub sum : ℕ → ℕ
sum b = bit_xor (b / 16) (bit_and b 15)

unfoldable pub quotient : ℕ → ℕ
quotient b = slice_index QUOTIENTS (bit_and b 15)

unfoldable pub first_place : ℕ → ℕ
first_place b =
    bit_xor (slice_index INVERSES (bit_xor (slice_index INVERSES (b / 16)) (quotient b))) (sum b)

unfoldable pub second_place : ℕ → ℕ
second_place b =
    bit_xor (slice_index INVERSES (bit_xor (slice_index INVERSES (sum b)) (quotient b))) (b / 16)

-- what two tables have at these places, together
unfoldable pub looked_up : List ℕ → List ℕ → ℕ → ℕ
looked_up first second b =
    bit_xor (slice_index first (first_place b)) (slice_index second (second_place b))

-- of a byte in the tower's basis its S-box value, without the constant
unfoldable pub plain : ℕ → ℕ
plain b = looked_up PLAIN_FIRST PLAIN_SECOND b

-- the same in the tower's basis
unfoldable pub once : ℕ → ℕ
once b = looked_up ONCE_FIRST ONCE_SECOND b

-- twice the value
unfoldable pub twice : ℕ → ℕ
twice b = looked_up TWICE_FIRST TWICE_SECOND b
