-- What is sent under a keyring: a label, then what is encrypted under the first key.
use Rattle.std.specs.Prelude.{◌≡◌, ℕ, ◌-◌, ◌^◌, ◌<◌, ◌≤◌, List, ◌∷◌, length}
use Rattle.memberlist_cipher.specs.Label.{IsLabelled}

-- a label has a length of one byte, and a packet is within the cipher's limits
abbrev pub MaySend : List ℕ → List ℕ → Type 0
MaySend label message = (length label < 256) × (length message ≤ 2 ^ 36 - 32)

-- the same for a stream
abbrev pub MaySendStream : List ℕ → List ℕ → Type 0
MaySendStream label message = (length label < 256) × (length message ≤ 2 ^ 28 - 29)

-- What is made with the first of the keys is after this label, or bare if the label is empty.
pub record SendsFirst (made : List ℕ → List ℕ) (keys : List (List ℕ)) (label bytes : List ℕ)
    : Type 0 where
  pub key : List ℕ
  pub others : List (List ℕ)
  pub first : keys ≡ key ∷ others
  pub labelled : IsLabelled bytes label (made key)
