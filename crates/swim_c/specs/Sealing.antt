-- Messages that are encrypted, or labelled in the clear, into a buffer.
use Rattle.std.specs.Prelude.{◌≡◌, ◌≢◌, ℕ, ◌<◌, ◌≤◌, List, [], ◌∷◌, ◌++◌, length}
use Rattle.memberlist_cipher.specs.Encryption.{encrypted, encrypted_stream}
use Rattle.memberlist_cipher.specs.Label.{IsLabelled}
use Rattle.memberlist_keyring.specs.Opening.{OpensFirst, OpensStreamFirst, OpensReplyFirst}
use Rattle.memberlist_keyring.specs.Sending.{MaySend, MaySendStream, SendsFirst}
use Rattle.swim_c.specs.Buffers.{Copied}
use Rattle.swim_c.specs.Unwrapping.{max_stream_len, IsUnwritten}

-- what is sent if there is no key: the message, after its label if that is not empty
abbrev pub in_the_clear : List ℕ → List ℕ → List ℕ
in_the_clear [] message = message
in_the_clear (first ∷ rest) message =
    244 ∷ length (first ∷ rest) ∷ (first ∷ rest) ++ message

-- The result of sending a message in the clear: it was copied or did not fit, its label has more
-- than 255 bytes (51), or it has a label and memory was refused (10).
pub data IsSentClear (label message old new : List ℕ) (status len : ℕ) : Type 0 where
  copied : length label < 256 → Copied (in_the_clear label message) old new status len
      → IsSentClear label message old new status len
  too_long : 255 < length label → IsUnwritten 51 old new status len
      → IsSentClear label message old new status len
  memory : 0 < length label → length label < 256 → IsUnwritten 10 old new status len
      → IsSentClear label message old new status len

-- The result of replying in the clear, where no label is written: the message was copied or did not
-- fit, or the label has more than 255 bytes (51).
pub data IsRepliedClear (label message old new : List ℕ) (status len : ℕ) : Type 0 where
  copied : length label < 256 → Copied message old new status len
      → IsRepliedClear label message old new status len
  too_long : 255 < length label → IsUnwritten 51 old new status len
      → IsRepliedClear label message old new status len

-- The result of making a message into bytes with the first key, behind this label, if its length is
-- allowed; the keys decrypt them. It was copied or did not fit, it or its label is too long (51), or
-- memory was refused (10). Without a key it is sent in the clear.
pub data Sealed (made : List ℕ → List ℕ) (Opened : List ℕ → Type 0) (May Clear : Type 0)
    (keys : List (List ℕ)) (label old new : List ℕ) (status len : ℕ) : Type 0 where
  under_key : (bytes : List ℕ) → SendsFirst made keys label bytes → Opened bytes → May
      → Copied bytes old new status len
      → Sealed made Opened May Clear keys label old new status len
  clear : keys ≡ [] → Clear
      → Sealed made Opened May Clear keys label old new status len
  too_long : keys ≢ [] → ¬ May → IsUnwritten 51 old new status len
      → Sealed made Opened May Clear keys label old new status len
  memory : keys ≢ [] → May → IsUnwritten 10 old new status len
      → Sealed made Opened May Clear keys label old new status len

-- the result of sending a message as a packet, with this nonce
abbrev pub PacketSealed : List (List ℕ) → List ℕ → List ℕ → List ℕ → List ℕ → List ℕ → ℕ → ℕ
    → Type 0
PacketSealed keys nonce label message old new status len =
    Sealed (λ key. encrypted key nonce label message) (λ bytes. OpensFirst keys bytes message)
    (MaySend label message) (IsSentClear label message old new status len) keys label
    old new status len

-- the result of sending a message as a stream, with this nonce
abbrev pub StreamSealed : List (List ℕ) → List ℕ → List ℕ → List ℕ → List ℕ → List ℕ → ℕ → ℕ
    → Type 0
StreamSealed keys nonce label message old new status len =
    Sealed (λ key. encrypted_stream key nonce label message)
    (λ bytes. OpensStreamFirst keys bytes message)
    (MaySendStream label message) (IsSentClear label message old new status len) keys label
    old new status len

-- the result of sending a message as the reply to a stream, with this nonce: the label is
-- authenticated, but not written
abbrev pub ReplySealed : List (List ℕ) → List ℕ → List ℕ → List ℕ → List ℕ → List ℕ → ℕ → ℕ
    → Type 0
ReplySealed keys nonce label message old new status len =
    Sealed (λ key. encrypted_stream key nonce label message)
    (λ bytes. OpensReplyFirst keys label bytes message)
    (MaySendStream label message) (IsRepliedClear label message old new status len) keys []
    old new status len

-- ---- what is encrypted, unwrapped again

-- With the keys the packet was made from this message.
pub record IsSealedPacket (keys : List (List ℕ)) (nonce label message packet : List ℕ) : Type 0
  where
    pub sends : SendsFirst (λ key. encrypted key nonce label message) keys label packet
    pub opens : OpensFirst keys packet message

-- With the keys the stream was made from this message.
pub record IsSealedStream (keys : List (List ℕ)) (nonce label message stream : List ℕ) : Type 0
  where
    pub sends : SendsFirst (λ key. encrypted_stream key nonce label message) keys label stream
    pub opens : OpensStreamFirst keys stream message
    pub within : length stream ≤ max_stream_len

-- With the keys the reply was made from this message, and authenticates this label.
pub record IsSealedReply (keys : List (List ℕ)) (nonce label message reply : List ℕ) : Type 0
  where
    pub sends : SendsFirst (λ key. encrypted_stream key nonce label message) keys [] reply
    pub opens : OpensReplyFirst keys label reply message
    pub within : (stream : List ℕ) → IsLabelled stream label reply → length stream ≤ max_stream_len
