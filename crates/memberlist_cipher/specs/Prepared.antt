-- What is computed once for a key, for any number of messages that are decrypted under it.
use Rattle.std.specs.Prelude.{◌≡◌, ℕ, ◌-◌, ◌/◌, List, length, take}
use Rattle.memberlist_cipher.specs.Block.{schedule, aes}
use Rattle.memberlist_cipher.specs.Gcm.{hash_key}
use Rattle.memberlist_cipher.specs.Encryption.{IsKey}

-- The key that a schedule was made from: its first bytes. A schedule has 112 bytes and four times
-- as many as the key.
unfoldable pub scheduled_key : List ℕ → List ℕ
scheduled_key words = take (length words / 4 - 28) words

-- the schedule and the hash's block are those of this key
pub record IsPrepared (key words : List ℕ) (h : ℕ) : Type 0 where
  pub good_key : IsKey key
  pub schedule_is : words ≡ schedule key
  pub block_is : h ≡ hash_key (aes key)
