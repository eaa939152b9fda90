-- What is around a message: a label, and an encryption.
use Rattle.std.specs.Prelude.{◌≡◌, ◌≢◌, ◌+◌, ◌*◌, ◌<◌, ℕ, Bool, true, false, List, [], ◌∷◌, length}
use Rattle.memberlist_cipher.specs.Label.{IsLabelled}
use Rattle.memberlist_compress.specs.Compressed.{IsSent}
use Rattle.memberlist_keyring.specs.Opening.{OpensFirst, OpensReplyFirst, OpensStreamFirst}
use Rattle.memberlist_transport.specs.Unwrapped.{IsInside, IsInsideReply}
use Rattle.memberlist_member.specs.declared.cover.Cover.{Cover}
use Rattle.memberlist_member.specs.declared.cover.Opened.{Opened}
use Rattle.memberlist_member.specs.declared.cover.Opened.TheVariants.{Message, Refused}

-- a label is behind its type and its length
abbrev pub label_size : List ℕ → ℕ
label_size [] = 0
label_size (b ∷ bs) = 2 + length (b ∷ bs)

-- a version, a nonce and a tag, if there is a key
abbrev pub seal_size : List (List ℕ) → ℕ
seal_size [] = 0
seal_size (key ∷ keys) = 29

-- how many bytes are around a message
abbrev pub size_around : Cover → ℕ
size_around cover = label_size cover.label.items + seal_size cover.keys

-- the bytes have the cluster's label
abbrev pub HasLabel : Cover → List ℕ → Type 0
HasLabel cover bytes = (rest : List ℕ) × IsLabelled bytes cover.label.items rest

-- the message is what the datagram has in it, behind the cluster's label; or there is none
abbrev pub OpensPacket : Cover → List ℕ → Opened → Type 0
OpensPacket cover bytes (Message message) =
    HasLabel cover bytes × IsInside cover.clear cover.keys bytes message.items
OpensPacket cover bytes Refused = HasLabel cover bytes
    → (inner : List ℕ) → ¬ IsInside cover.clear cover.keys bytes inner

-- the same of what came over a connection so far; a reply has no label
abbrev pub OpensStreamOf : Cover → Bool → List ℕ → Opened → Type 0
OpensStreamOf cover is_reply bytes (Message message) =
    (is_reply ≡ false → HasLabel cover bytes)
    × IsInsideReply (20 * 1024 * 1024) cover.clear cover.keys cover.label.items bytes message.items
OpensStreamOf cover is_reply bytes Refused =
    length cover.label.items < 256 → (is_reply ≡ false → HasLabel cover bytes) → (inner : List ℕ)
    → ¬ IsInsideReply (20 * 1024 * 1024) cover.clear cover.keys cover.label.items bytes inner

-- the message as it is sent: where messages are compressed, by that if it makes it shorter
abbrev pub IsSentWith : Bool → List ℕ → List ℕ → Type 0
IsSentWith true message sent = IsSent message sent
IsSentWith false message sent = sent ≡ message

-- the datagram is the message behind the label, or opens to it under the first key
pub record ClosesPacket (cover : Cover) (message bytes : List ℕ) : Type 0 where
  pub clear : cover.keys ≡ [] → IsLabelled bytes cover.label.items message
  pub sealed : cover.keys ≢ [] → OpensFirst cover.keys bytes message

-- the same of a stream; in the clear, a reply is the message as it is
pub record ClosesStream (cover : Cover) (is_reply : Bool) (message bytes : List ℕ) : Type 0 where
  pub clear : cover.keys ≡ [] → is_reply ≡ false → IsLabelled bytes cover.label.items message
  pub reply : cover.keys ≡ [] → is_reply ≡ true → bytes ≡ message
  pub sealed : cover.keys ≢ [] → is_reply ≡ false → OpensStreamFirst cover.keys bytes message
  pub sealed_reply : cover.keys ≢ [] → is_reply ≡ true
      → OpensReplyFirst cover.keys cover.label.items bytes message
