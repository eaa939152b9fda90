-- The bytes of a message, whatever they are: of a packet, or of one direction of a connection.
use Rattle.std.specs.Prelude.{◌≡◌, ℕ, List, []}
use Rattle.memberlist_keyring.specs.Opening.{Opens, OpensFirst, OpensStreamFirst}
use Rattle.memberlist_wrap.specs.Wrapping.{Unwraps}
use Rattle.memberlist_transport.specs.declared.in_the_clear.InTheClear.{InTheClear}
use Rattle.memberlist_transport.specs.InTheClear.{AcceptsClear}
use Rattle.memberlist_transport.specs.Packet.{max_message_len}
use Rattle.memberlist_transport.specs.Reply.{IsReadAs}
use Rattle.memberlist_transport.specs.Stream.{IsSealed}

-- The packet has these bytes in wrappers: under the first key that decrypts it; or, if none does
-- and packets in the clear are read, in the clear.
pub data IsInside (policy : InTheClear) (keys : List (List ℕ)) (bytes inner : List ℕ) : Type 0
  where
    clear : AcceptsClear policy keys → ((plain : List ℕ) → ¬ Opens keys bytes plain)
        → Unwraps max_message_len bytes inner → IsInside policy keys bytes inner
    opened : (plain : List ℕ) → OpensFirst keys bytes plain → Unwraps max_message_len plain inner
        → IsInside policy keys bytes inner

-- The bytes of a connection have this message in wrappers: in the clear, if that is read, and no
-- key is tried; or, if they are encrypted and there are keys, under the first key that decrypts
-- them. Nothing has more bytes than the limit.
pub data IsInsideStream (limit : ℕ) (policy : InTheClear) (keys : List (List ℕ))
    (bytes inner : List ℕ) : Type 0
  where
    clear : AcceptsClear policy keys → (IsSealed limit bytes → keys ≡ [])
        → Unwraps limit bytes inner → IsInsideStream limit policy keys bytes inner
    opened : (plain : List ℕ) → IsSealed limit bytes → OpensStreamFirst keys bytes plain
        → Unwraps limit plain inner → IsInsideStream limit policy keys bytes inner

-- the same of bytes that are read as a reply in a cluster with this label
abbrev pub IsInsideReply : ℕ → InTheClear → List (List ℕ) → List ℕ → List ℕ → List ℕ → Type 0
IsInsideReply limit policy keys label bytes inner =
    (whole : List ℕ) × IsReadAs label bytes whole × IsInsideStream limit policy keys whole inner
