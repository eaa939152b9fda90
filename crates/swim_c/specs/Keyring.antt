-- What a keyring's handle owns, its keys, and what becomes of what is in the clear.
use base.Fml.{Fml}
use base.Stored.{Coded}
use denote.RawPtr.{Ptr}
use Rattle.std.specs.List.{remove, swap}
use Rattle.std.specs.Prelude.{◌≡◌, ℕ, ◌<◌, ◌≤◌, List, [], ◌∷◌, ◌++◌, length, slice_get, Bool, Option, Some, None}
use Rattle.std.specs.Coded.{coded_option}
use Rattle.memberlist_cipher.specs.Encryption.{IsKey}
use Rattle.memberlist_transport.specs.declared.in_the_clear.InTheClear.TheVariants.{Refused, Accepted}
use Rattle.swim_c.specs.contracts.cluster_keys.ClusterKeys.{the_row}
use Rattle.swim_c.specs.declared.cluster_keys.ClusterKeys.{ClusterKeys}
use Rattle.swim_c.specs.Buffers.{Copied}
use Rattle.swim_c.specs.Handle.{holds}
use Rattle.swim_c.specs.Statuses as statuses
use Rattle.swim_c.specs.Unwrapping.{IsUnwritten}

-- how proofs distinguish keys from others, and from none
abbrev pub keyring_coded : Coded (Option the_row.Denot)
keyring_coded = coded_option the_row.coded

-- keys and the right to free their block, if the handle has some
abbrev pub keyring_owns : Ptr → Bool → Option the_row.Denot → Fml
keyring_owns = holds the_row

-- the keys of a handle; an empty handle has none, and refuses what is in the clear once it has some
abbrev pub keys_of : Option ClusterKeys → ClusterKeys
keys_of None = record { keyring = []; clear = Refused }
keys_of (Some keys) = keys

-- The key comes after those that were there (0), and what becomes of what is in the clear stays. Or
-- the handle is unchanged: the key has another length (50), or memory was refused (10).
pub data KeyAdded (key : List ℕ) (status : ℕ) (old new : Option ClusterKeys) : Type 0 where
  added : status ≡ 0 → IsKey key
      → new ≡ Some (record (keys_of old) { keyring = (keys_of old).keyring ++ key ∷ [] })
      → KeyAdded key status old new
  bad_key : status ≡ 50 → ¬ IsKey key → new ≡ old → KeyAdded key status old new
  memory : status ≡ statuses.memory → IsKey key → new ≡ old → KeyAdded key status old new

-- The handle has keys, and what is in the clear is read from now on (0), or it has none (64).
abbrev pub ClearAccepted : ℕ → Option ClusterKeys → Option ClusterKeys → Type 0
ClearAccepted status None new = (status ≡ statuses.no_node) × (new ≡ None)
ClearAccepted status (Some keys) new =
    (status ≡ 0) × (new ≡ Some (record keys { clear = Accepted }))

-- The key at this index was copied or did not fit, or there is none (71).
pub data KeyGiven (keys : List (List ℕ)) (i : ℕ) (old new : List ℕ) (status len : ℕ) : Type 0 where
  given : (key : List ℕ) → slice_get keys i ≡ Some key → Copied key old new status len
      → KeyGiven keys i old new status len
  none : length keys ≤ i → IsUnwritten statuses.no_item old new status len
      → KeyGiven keys i old new status len

-- the keys changed to these, and nothing else did
abbrev pub HasKeys : Option ClusterKeys → List (List ℕ) → Option ClusterKeys → Type 0
HasKeys old keys new = new ≡ Some (record (keys_of old) { keyring = keys })

-- The key at this index and the first one changed places (0), or there is none (71) and the handle
-- is unchanged.
pub data KeyUsed (i status : ℕ) (old new : Option ClusterKeys) : Type 0 where
  used : status ≡ 0 → i < length (keys_of old).keyring
      → HasKeys old (swap (keys_of old).keyring 0 i) new → KeyUsed i status old new
  none : status ≡ statuses.no_item → length (keys_of old).keyring ≤ i → new ≡ old
      → KeyUsed i status old new

-- The key at this index was removed (0). Or the handle is unchanged: there is none (71), or it is
-- the first, which encrypts (72).
pub data KeyRemoved (i status : ℕ) (old new : Option ClusterKeys) : Type 0 where
  removed : status ≡ 0 → 0 < i → i < length (keys_of old).keyring
      → HasKeys old (remove (keys_of old).keyring i) new → KeyRemoved i status old new
  none : status ≡ statuses.no_item → length (keys_of old).keyring ≤ i → new ≡ old
      → KeyRemoved i status old new
  first : status ≡ statuses.key_in_use → i ≡ 0 → 0 < length (keys_of old).keyring → new ≡ old
      → KeyRemoved i status old new
