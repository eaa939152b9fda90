-- Galois/Counter mode, SP 800-38D. A block is also the number with its bytes as digits, the highest
-- first.
use Rattle.std.specs.Prelude.{ℕ, zero, suc, ◌+◌, ◌*◌, ◌/◌, ◌%◌, ◌^◌, ◌==◌, if◌then◌else◌, bit_xor, List, [], ◌++◌}
use Rattle.std.specs.Prelude.{length, take, drop, replicate}
use Rattle.std.specs.Int.{bit_at, w32, w128, to_be_bytes, from_be_bytes}
use Rattle.memberlist_cipher.specs.Block.{plus_bytes}

-- v times x: one bit to the right, and 11100001 at the left if a bit was shifted out
unfoldable pub times_x : ℕ → ℕ
times_x v = if v % 2 == 1 then bit_xor (v / 2) (0xe1 * 2 ^ 120) else v / 2

-- z and the products of v with the n lowest bits of x, the highest of them first (6.3, algorithm 1)
unfoldable pub steps : ℕ → ℕ → ℕ → ℕ → ℕ
steps zero x z v = z
steps (suc n) x z v = steps n x (if bit_at x n == 1 then bit_xor z v else z) (times_x v)

-- the product of blocks
unfoldable pub block_product : ℕ → ℕ → ℕ
block_product x y = steps 128 x 0 y

-- the first block of bytes, padded with zeros
unfoldable pub block : List ℕ → ℕ
block bytes = from_be_bytes w128 bytes

-- how many blocks bytes have
unfoldable pub blocks : List ℕ → ℕ
blocks bytes = (length bytes + 15) / 16

-- the hash y after n more blocks (6.4, algorithm 2)
unfoldable pub hashed : ℕ → ℕ → ℕ → List ℕ → ℕ
hashed zero h y bytes = y
hashed (suc n) h y bytes = hashed n h (block_product (bit_xor y (block bytes)) h) (drop 16 bytes)

-- the hash y after all blocks
unfoldable pub hash : ℕ → ℕ → List ℕ → ℕ
hash h y bytes = hashed (blocks bytes) h y bytes

-- Below, f is the block cipher with its key.

-- the block of a nonce of 12 bytes and a counter
unfoldable pub counter_block : List ℕ → ℕ → List ℕ
counter_block nonce c = nonce ++ to_be_bytes w32 c

-- n blocks, each with the encrypted counter added (6.5, algorithm 3)
unfoldable pub counted : ℕ → (List ℕ → List ℕ) → List ℕ → ℕ → List ℕ → List ℕ
counted zero f nonce c bytes = []
counted (suc n) f nonce c bytes =
    plus_bytes (take 16 bytes) (f (counter_block nonce c))
    ++ counted n f nonce ((c + 1) % 2 ^ 32) (drop 16 bytes)

-- the same for all blocks, the last of which may be cut
unfoldable pub counted_all : (List ℕ → List ℕ) → List ℕ → ℕ → List ℕ → List ℕ
counted_all f nonce c bytes = counted (blocks bytes) f nonce c bytes

-- the bytes, encrypted or decrypted: the counter 1 is the tag's
unfoldable pub ctr : (List ℕ → List ℕ) → List ℕ → List ℕ → List ℕ
ctr f nonce bytes = counted_all f nonce 2 bytes

-- the two lengths in bits, 8 bytes each
unfoldable pub lengths : List ℕ → List ℕ → ℕ
lengths extra sealed = length extra * 8 * 2 ^ 64 + length sealed * 8

-- the block that the hash multiplies by: the encryption of zeros (7.1, step 1)
unfoldable pub hash_key : (List ℕ → List ℕ) → ℕ
hash_key f = from_be_bytes w128 (f (replicate 16 0))

-- the tag of a ciphertext (7.1)
unfoldable pub tag : (List ℕ → List ℕ) → List ℕ → List ℕ → List ℕ → List ℕ
tag f nonce extra sealed =
    let h = hash_key f in
    let s = block_product (bit_xor (hash h (hash h 0 extra) sealed) (lengths extra sealed)) h in
    plus_bytes (to_be_bytes w128 s) (f (counter_block nonce 1))
