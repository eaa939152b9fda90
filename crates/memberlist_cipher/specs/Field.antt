-- Bytes as polynomials over the numbers modulo 2 (FIPS-197, 4): the bit of 2 ^ k is the coefficient
-- of x ^ k, and the sum is bit_xor.
use Rattle.std.specs.Prelude.{ℕ, zero, suc, ◌+◌, ◌*◌, ◌/◌, ◌%◌, ◌^◌, ◌==◌, if◌then◌else◌, bit_xor}
use Rattle.std.specs.Int.{bit_at}

-- the product of polynomials, a with n coefficients
unfoldable pub carryless : ℕ → ℕ → ℕ → ℕ
carryless zero a b = 0
carryless (suc n) a b = bit_xor (a % 2 * b) (2 * carryless n (a / 2) b)

-- the remainder of a polynomial with 8 + n coefficients when it is divided by x ^ 8 + x ^ 4 + x ^ 3
-- + x + 1
unfoldable pub modulo : ℕ → ℕ → ℕ
modulo zero p = p
modulo (suc n) p = modulo n (bit_xor p (bit_at p (n + 8) * 2 ^ n * 0x11b))

-- the product of two bytes (4.2)
unfoldable pub product : ℕ → ℕ → ℕ
product a b = modulo 7 (carryless 8 a b)

-- the byte up to n whose product with a is 1, or 0
unfoldable pub inverse_up_to : ℕ → ℕ → ℕ
inverse_up_to zero a = 0
inverse_up_to (suc n) a = if product a (suc n) == 1 then suc n else inverse_up_to n a

-- the inverse of a byte; for 0 the byte 0
unfoldable pub inverse : ℕ → ℕ
inverse a = inverse_up_to 255 a

-- one bit of the affine transformation (5.1)
unfoldable pub affine_bit : ℕ → ℕ → ℕ
affine_bit b i =
    (bit_at b i + bit_at b ((i + 4) % 8) + bit_at b ((i + 5) % 8) + bit_at b ((i + 6) % 8)
    + bit_at b ((i + 7) % 8) + bit_at 0x63 i) % 2

-- its n lowest bits
unfoldable pub affine : ℕ → ℕ → ℕ
affine zero b = 0
affine (suc n) b = affine n b + affine_bit b n * 2 ^ n

-- the S-box (5.1.1)
unfoldable pub sub : ℕ → ℕ
sub a = affine 8 (inverse a)

-- x ^ n
unfoldable pub x_to : ℕ → ℕ
x_to zero = 1
x_to (suc n) = product 2 (x_to n)
