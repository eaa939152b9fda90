-- What the code stores of a block to multiply others by it: planes of its products with four bits.
use Rattle.std.specs.Prelude.{ℕ, zero, suc, ◌+◌, ◌-◌, ◌*◌, ◌/◌, ◌%◌, ◌^◌, List, [], ◌∷◌, ◌++◌, map, slice_index, bit_xor}
use Rattle.std.specs.Int.{w128, from_be_bytes}
use Rattle.std.specs.List.{range_with_len}
use Rattle.memberlist_cipher.specs.Gcm.{times_x, steps}

-- v times x, n times
unfoldable pub shifted : ℕ → ℕ → ℕ
shifted zero v = v
shifted (suc n) v = shifted n (times_x v)

-- bytes as a polynomial, the first with the lowest powers of x
unfoldable pub poly : List ℕ → ℕ
poly [] = 0
poly (b ∷ bs) = bit_xor (b * 2 ^ 120) (shifted 8 (poly bs))

-- byte k of the product of v with four bits, at the place of these bits in plane k
unfoldable pub plane_byte : ℕ → ℕ → ℕ
plane_byte v at = steps 4 (at % 16) 0 v / 2 ^ (120 - 8 * (at / 16)) % 256

-- sixteen planes of sixteen bytes
unfoldable pub planes_of : ℕ → List ℕ
planes_of v = map (plane_byte v) (range_with_len 0 256)

-- those of a byte's higher four bits, and then those of its lower four
unfoldable pub all_planes : ℕ → List ℕ
all_planes v = planes_of v ++ planes_of (shifted 4 v)

-- the block whose planes these are: the four bits 1000 mean 1
unfoldable pub planes_block : List ℕ → ℕ
planes_block planes =
    from_be_bytes w128 (map (λ k. slice_index planes (16 * k + 8)) (range_with_len 0 16))

-- byte k of the product with a byte
unfoldable pub entry : List ℕ → ℕ → ℕ → ℕ
entry planes k b =
    bit_xor (slice_index planes (16 * k + b / 16)) (slice_index planes (256 + 16 * k + b % 16))

-- the sum of n planes from plane k on, each times x ^ 8 more often than the one before, at bytes
unfoldable pub planes_sum : List ℕ → ℕ → ℕ → List ℕ → ℕ
planes_sum planes zero k bytes = 0
planes_sum planes (suc n) k bytes =
    bit_xor (poly (map (entry planes k) bytes)) (shifted 8 (planes_sum planes n (k + 1) bytes))
