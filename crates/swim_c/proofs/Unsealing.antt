-- What was encrypted is unwrapped again.
use Rattle.std.proofs.Common.{◌≡◌, ◌≢◌, ℕ, ◌+◌, ◌≤◌, List, [], ◌∷◌, ◌++◌, length, length-append, get_or, inl, inr, refl}
use Rattle.std.proofs.Common.{sym, ap, ◌∙◌, subst, arith}
use Rattle.std.specs.Int.{w32, to_be_bytes}
use Rattle.memberlist_cipher.specs.Encryption.{encrypted, encrypted_stream, head}
use Rattle.memberlist_cipher.specs.Label.{IsLabelled}
use Rattle.memberlist_keyring.proofs.OneOpened.{one_opened}
use Rattle.memberlist_transport.proofs.Packets.{opens_packet}
use Rattle.memberlist_wrap.specs.Wrapping.{Wrapper, kind, IsBare, Unwraps}
use Rattle.memberlist_wrap.specs.Wrapping.Wrapper.{compression, checksum, label as labelling}
use Rattle.memberlist_transport.specs.declared.in_the_clear.InTheClear.{InTheClear}
use Rattle.memberlist_transport.specs.Packet.{max_message_len}
use Rattle.memberlist_transport.specs.Reply.{IsReadAs}
use Rattle.memberlist_transport.specs.Stream.{IsSealed}
use Rattle.memberlist_transport.specs.Unwrapped.{IsInside, IsInsideStream, IsInsideReply}
use Rattle.swim_c.specs.Sealing.{IsSealedPacket, IsSealedStream, IsSealedReply}
use Rattle.swim_c.specs.Unwrapping.{max_stream_len}

-- bytes that do not begin with a wrapper's byte are bare
bare_from : (bytes rest : List ℕ) (first : ℕ) → bytes ≡ first ∷ rest → ((w : Wrapper) → first ≢ kind w) → IsBare bytes
bare_from bytes rest first is other w more begins = other w (ap (λ (b : List ℕ). get_or b 0 0) (sym is ∙ begins))

-- what has a label is wrapped in the label, or in nothing
label_wraps : (limit : ℕ) (bytes name rest : List ℕ) → IsLabelled bytes name rest → IsBare rest
    → length bytes ≤ limit → Unwraps limit bytes rest
label_wraps limit bytes name rest (inl none) bare few = record {
  wrappers = [];
  few = omega arith;
  wraps = record { wrapped = none.1; bare = bare; within = omega (arith, few, ap length none.1) };
}
label_wraps limit bytes name rest (inr some) bare few = record {
  wrappers = labelling ∷ [];
  few = omega arith;
  wraps = record {
    wrapped = (length name ∷ name ++ rest, rest, some.1, (name, (some.0, refl)), refl);
    bare = bare;
    within = omega (arith, few, ap length some.1, length-append name rest);
  };
}

-- ---- packets

pub packet_again : (policy : InTheClear) (keys : List (List ℕ)) (nonce label message packet inner : List ℕ)
    → IsSealedPacket keys nonce label message packet
    → Unwraps max_message_len message inner → IsInside policy keys packet inner
packet_again policy keys nonce label message packet inner s wraps = IsInside.opened message s.opens wraps

pub no_other : (policy : InTheClear) (keys : List (List ℕ)) (nonce label message packet inner : List ℕ)
    → IsSealedPacket keys nonce label message packet
    → IsInside policy keys packet inner → Unwraps max_message_len message inner
no_other policy keys nonce label message packet inner s (IsInside.clear read closed wraps) = absurd
    (closed message (opens_packet keys packet message s.opens))
no_other policy keys nonce label message packet inner s (IsInside.opened other opens wraps) =
    subst (λ (m : List ℕ). Unwraps max_message_len m inner) (one_opened keys packet other message opens s.opens) wraps

-- ---- streams

abbrev stream_rest : (key nonce label message : List ℕ) → List ℕ
stream_rest key nonce label message =
    let n = 29 + length message in to_be_bytes w32 n ++ encrypted key nonce (head n ++ label) message

begins_stream : (key nonce label message : List ℕ) → encrypted_stream key nonce label message ≡ 10 ∷ stream_rest key nonce label message
unfolding encrypted_stream head
begins_stream key nonce label message = refl

not_ten : (w : Wrapper) → 10 ≢ kind w
not_ten compression e = omega (arith, e)
not_ten checksum e = omega (arith, e)
not_ten labelling e = omega (arith, e)

is_sealed : (keys : List (List ℕ)) (nonce label message bytes : List ℕ)
    → IsSealedStream keys nonce label message bytes → IsSealed max_stream_len bytes
is_sealed keys nonce label message bytes s =
    let key = s.sends.key in let made = encrypted_stream key nonce label message in let begins = begins_stream key nonce label message in (
      made,
      label_wraps max_stream_len bytes label made s.sends.labelled
          (bare_from made (stream_rest key nonce label message) 10 begins not_ten) s.within,
      (stream_rest key nonce label message, begins),
    )

pub stream_again : (policy : InTheClear) (keys : List (List ℕ)) (nonce label message bytes inner : List ℕ)
    → IsSealedStream keys nonce label message bytes
    → Unwraps max_stream_len message inner → IsInsideStream max_stream_len policy keys bytes inner
stream_again policy keys nonce label message bytes inner s wraps = IsInsideStream.opened message
    (is_sealed keys nonce label message bytes s) s.opens wraps

-- ---- streams after their label, and replies, which have none before them

-- what follows a label is read as it is, and so is what has none by a reader with none
read_behind : (label own bytes rest : List ℕ) → IsLabelled bytes label rest → (label ≡ [] → own ≡ []) → IsReadAs own bytes bytes
read_behind label own bytes rest (inl none) same = inr (λ begins. none.2 begins.0 begins.1, inl (same none.0, refl, none.2))
read_behind label own bytes rest (inr some) same = inl ((length label ∷ label ++ rest, some.1), refl)

pub behind_again : (policy : InTheClear) (keys : List (List ℕ))
    (nonce label own message bytes stream : List ℕ) → IsSealedStream keys nonce label message bytes
    → Unwraps max_stream_len message stream → (label ≡ [] → own ≡ []) → IsInsideReply max_stream_len policy keys own bytes stream
behind_again policy keys nonce label own message bytes stream s clear same =
    (bytes, read_behind label own bytes _ s.sends.labelled same, stream_again policy keys nonce label message bytes stream s clear)

-- what is sent bare begins with no label, and is unchanged
is_bare : (bytes rest : List ℕ) → IsLabelled bytes [] rest → (bytes ≡ rest) × ((more : List ℕ) → bytes ≢ 244 ∷ more)
is_bare bytes rest (inl none) = (none.1, none.2)
is_bare bytes rest (inr some) = absurd (omega (arith, some.0))

-- a reply, with its label put before it, is a stream encrypted with that label
sealed_behind : (keys : List (List ℕ)) (nonce label message bytes : List ℕ) → (s : IsSealedReply keys nonce label message bytes)
    → IsSealedStream keys nonce label message s.opens.0
sealed_behind keys nonce label message bytes s = record {
  sends = record {
    key = s.sends.key;
    others = s.sends.others;
    first = s.sends.first;
    labelled = subst (λ (b : List ℕ). IsLabelled s.opens.0 label b) (is_bare bytes _ s.sends.labelled).0 s.opens.1;
  };
  opens = s.opens.2;
  within = s.within s.opens.0 s.opens.1;
}

pub reply_again : (policy : InTheClear) (keys : List (List ℕ)) (nonce label message bytes stream : List ℕ)
    → IsSealedReply keys nonce label message bytes
    → Unwraps max_stream_len message stream → IsInsideReply max_stream_len policy keys label bytes stream
reply_again policy keys nonce label message bytes stream s clear =
    let bare = (is_bare bytes _ s.sends.labelled).1 in (
      s.opens.0,
      inr (λ begins. bare begins.0 begins.1, s.opens.1),
      stream_again policy keys nonce label message s.opens.0 stream
          (sealed_behind keys nonce label message bytes s) clear,
    )
