-- What memberlist writes under a cluster's key: packets, and streams.
use Rattle.std.specs.Prelude.{◌≡◌, ℕ, ◌+◌, ◌-◌, ◌%◌, ◌^◌, ◌<◌, ◌≤◌, ◌⊎◌, List, ◌∷◌, ◌++◌, length, replicate}
use Rattle.std.specs.Int.{w32, to_be_bytes}
use Rattle.memberlist_cipher.specs.Block.{aes}
use Rattle.memberlist_cipher.specs.Gcm.{ctr, tag}

-- 16, 24 or 32 bytes
abbrev pub IsKey : List ℕ → Type 0
IsKey key = (length key ≡ 16) ⊎ (length key ≡ 24) ⊎ (length key ≡ 32)

-- The standard's limits (SP 800-38D, 5.2.1.1): 2 ^ 36 - 32 bytes of text, to which 29 bytes are
-- added here, and 2 ^ 61 - 1 associated bytes.
abbrev pub IsWithin : List ℕ → List ℕ → Type 0
IsWithin aad bytes = (length bytes ≤ 2 ^ 36 - 3) × (length aad < 2 ^ 61)

-- this many bytes may be encrypted, within these limits
abbrev pub MayEncrypt : List ℕ → List ℕ → Type 0
MayEncrypt aad message = (length message ≤ 2 ^ 36 - 32) × (length aad < 2 ^ 61)

-- the ciphertext and its tag (7.1)
unfoldable pub sealed : List ℕ → List ℕ → List ℕ → List ℕ → List ℕ
sealed key nonce aad text =
    let c = ctr (aes key) nonce text in c ++ tag (aes key) nonce aad c

-- 1 to 16 bytes more, each the count of them, up to a multiple of 16 (PKCS #7)
unfoldable pub padded : List ℕ → List ℕ
padded message = let more = 16 - length message % 16 in message ++ replicate more more

-- the encryption of version 1 with this nonce
unfoldable pub encrypted : List ℕ → List ℕ → List ℕ → List ℕ → List ℕ
encrypted key nonce aad message = 1 ∷ nonce ++ sealed key nonce aad message

-- The bytes are an encryption of this message under the key, with these associated bytes: a
-- version, a nonce of 12 bytes, the ciphertext and its tag. In version 0 the plaintext is the
-- padded message, in version 1 the message.
pub record Encryption (key aad bytes message : List ℕ) : Type 0 where
  pub good_key : IsKey key
  pub within : IsWithin aad bytes
  pub nonce : List ℕ
  pub nonce_size : length nonce ≡ 12
  pub text : (bytes ≡ 0 ∷ nonce ++ sealed key nonce aad (padded message))
      ⊎ (bytes ≡ 1 ∷ nonce ++ sealed key nonce aad message)

-- this message, and no other one
abbrev pub HoldsOnly : (List ℕ → Type 0) → List ℕ → Type 0
HoldsOnly Holds message =
    Holds message × ((other : List ℕ) → Holds other → other ≡ message)

-- the head of a stream in which n bytes follow
unfoldable pub head : ℕ → List ℕ
head n = 10 ∷ to_be_bytes w32 n

-- a head, and as many bytes as it announces, at most 2 ^ 28
pub record IsStream (bytes ciphertext : List ℕ) : Type 0 where
  pub few : length ciphertext ≤ 2 ^ 28
  pub text : bytes ≡ head (length ciphertext) ++ ciphertext

-- a stream may hold this many bytes, and its head and the label may be associated
abbrev pub MayEncryptStream : List ℕ → List ℕ → Type 0
MayEncryptStream label message =
    (length message ≤ 2 ^ 28 - 29) × (length label < 2 ^ 61 - 5)

-- the stream that holds the encryption of version 1 with this nonce
unfoldable pub encrypted_stream : List ℕ → List ℕ → List ℕ → List ℕ → List ℕ
encrypted_stream key nonce label message =
    let h = head (29 + length message) in h ++ encrypted key nonce (h ++ label) message

-- The stream holds an encryption of this message; its head and the label are associated.
pub record StreamEncryption (key label bytes message : List ℕ) : Type 0 where
  pub ciphertext : List ℕ
  pub stream : IsStream bytes ciphertext
  pub encryption : Encryption key (head (length ciphertext) ++ label) ciphertext message
