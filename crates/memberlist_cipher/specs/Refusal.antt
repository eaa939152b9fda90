-- Why bytes are refused, fault by fault. Each case repeats what was found to be right before.
use Rattle.std.specs.Prelude.{◌≡◌, ◌≢◌, ℕ, ◌+◌, ◌^◌, ◌<◌, ◌≤◌, ◌⊎◌, List, ◌∷◌, ◌++◌, length, drop, slice_index}
use Rattle.std.specs.Int.{w32, from_be_bytes}
use Rattle.memberlist_cipher.specs.declared.fault.CipherFault.{CipherFault}
use Rattle.memberlist_cipher.specs.declared.fault.CipherFault.TheVariants.{BadKey, TooLong, TooShort, WrongVersion}
use Rattle.memberlist_cipher.specs.declared.fault.CipherFault.TheVariants.{WrongTag, BadPadding, NotEncrypted, Trailing}
use Rattle.memberlist_cipher.specs.declared.fault.CipherFault.TheVariants.{Memory}
use Rattle.memberlist_cipher.specs.Block.{aes}
use Rattle.memberlist_cipher.specs.Gcm.{ctr, tag}
use Rattle.memberlist_cipher.specs.Encryption.{IsKey, IsWithin, padded, head, IsStream}

-- the bytes in parts: a version, a nonce of 12 bytes, the ciphertext, and 16 bytes at the place of
-- the tag
pub record PacketParts (bytes : List ℕ) : Type 0 where
  pub version : ℕ
  pub nonce : List ℕ
  pub ciphertext : List ℕ
  pub tag : List ℕ
  pub known : version < 2
  pub nonce_size : length nonce ≡ 12
  pub tag_size : length tag ≡ 16
  pub text : bytes ≡ version ∷ (nonce ++ (ciphertext ++ tag))

-- the tag is right
abbrev pub IsTagged : (key aad bytes : List ℕ) → PacketParts bytes → Type 0
IsTagged key aad bytes l = l.tag ≡ tag (aes key) l.nonce aad l.ciphertext

-- the plaintext is not a padded message
abbrev pub IsUnpadded : (key bytes : List ℕ) → PacketParts bytes → Type 0
IsUnpadded key bytes l = (message : List ℕ) → padded message ≢ ctr (aes key) l.nonce l.ciphertext

-- why bytes do not have the layout
abbrev pub FormCause : CipherFault → List ℕ → Type 0
FormCause TooShort bytes = length bytes < 29
FormCause WrongVersion bytes = (29 ≤ length bytes) × (1 < slice_index bytes 0)
FormCause BadKey bytes = ⊥
FormCause TooLong bytes = ⊥
FormCause WrongTag bytes = ⊥
FormCause BadPadding bytes = ⊥
FormCause NotEncrypted bytes = ⊥
FormCause Trailing bytes = ⊥
FormCause Memory bytes = ⊥

-- why a key is not prepared
abbrev pub KeyCause : CipherFault → List ℕ → Type 0
KeyCause BadKey key = ¬ IsKey key
KeyCause Memory key = IsKey key
KeyCause TooLong key = ⊥
KeyCause TooShort key = ⊥
KeyCause WrongVersion key = ⊥
KeyCause WrongTag key = ⊥
KeyCause BadPadding key = ⊥
KeyCause NotEncrypted key = ⊥
KeyCause Trailing key = ⊥

-- why decrypt refuses
abbrev pub PacketCause : CipherFault → List ℕ → List ℕ → List ℕ → Type 0
PacketCause BadKey key aad bytes = ¬ IsKey key
PacketCause TooLong key aad bytes = IsKey key × ¬ IsWithin aad bytes
PacketCause TooShort key aad bytes =
    IsKey key × IsWithin aad bytes × (length bytes < 29)
PacketCause WrongVersion key aad bytes =
    IsKey key × IsWithin aad bytes × (29 ≤ length bytes) × (1 < slice_index bytes 0)
PacketCause WrongTag key aad bytes =
    IsKey key × IsWithin aad bytes × (l : PacketParts bytes)
    × ¬ IsTagged key aad bytes l
PacketCause BadPadding key aad bytes =
    IsKey key × IsWithin aad bytes × (l : PacketParts bytes)
    × IsTagged key aad bytes l × (l.version ≡ 0) × IsUnpadded key bytes l
PacketCause Memory key aad bytes = IsKey key × IsWithin aad bytes × PacketParts bytes
PacketCause NotEncrypted key aad bytes = ⊥
PacketCause Trailing key aad bytes = ⊥

-- how many bytes a stream's head announces
abbrev pub announced : List ℕ → ℕ
announced bytes = from_be_bytes w32 (drop 1 bytes)

-- the bytes start with a head
abbrev pub HasHead : List ℕ → Type 0
HasHead bytes = (5 ≤ length bytes) × (slice_index bytes 0 ≡ 10)

-- why bytes are not a stream
abbrev pub HeadCause : CipherFault → List ℕ → Type 0
HeadCause TooShort bytes =
    (length bytes < 5)
    ⊎ (HasHead bytes × (announced bytes ≤ 2 ^ 28) × (length bytes < 5 + announced bytes))
HeadCause NotEncrypted bytes = (5 ≤ length bytes) × (slice_index bytes 0 ≢ 10)
HeadCause TooLong bytes = HasHead bytes × (2 ^ 28 < announced bytes)
HeadCause Trailing bytes =
    HasHead bytes × (announced bytes ≤ 2 ^ 28) × (5 + announced bytes < length bytes)
HeadCause BadKey bytes = ⊥
HeadCause WrongVersion bytes = ⊥
HeadCause WrongTag bytes = ⊥
HeadCause BadPadding bytes = ⊥
HeadCause Memory bytes = ⊥

-- why decrypt_stream refuses
abbrev pub StreamCause : CipherFault → List ℕ → List ℕ → List ℕ → Type 0
StreamCause fault key label bytes =
    HeadCause fault bytes
    ⊎ ((ciphertext : List ℕ) × IsStream bytes ciphertext
    × ((fault ≡ Memory) ⊎ PacketCause fault key (head (length ciphertext) ++ label) ciphertext))

-- why encryption is refused, for bytes that may or may not be encrypted
abbrev pub EncryptCause : Type 0 → CipherFault → Type 0
EncryptCause May TooLong = ¬ May
EncryptCause May Memory = May
EncryptCause May BadKey = ⊥
EncryptCause May TooShort = ⊥
EncryptCause May WrongVersion = ⊥
EncryptCause May WrongTag = ⊥
EncryptCause May BadPadding = ⊥
EncryptCause May NotEncrypted = ⊥
EncryptCause May Trailing = ⊥
