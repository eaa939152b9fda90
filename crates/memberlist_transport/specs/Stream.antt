-- The push/pull stream in one direction of a connection.
use Rattle.std.specs.Prelude.{◌≡◌, ℕ, List, [], ◌∷◌}
use Rattle.memberlist_cipher.specs.declared.fault.CipherFault.{CipherFault}
use Rattle.memberlist_cipher.specs.Refusal.{StreamCause}
use Rattle.memberlist_keyring.specs.Cutting.{IsRefused}
use Rattle.memberlist_keyring.specs.Opening.{OpensStream, OpensStreamFirst}
use Rattle.memberlist_wrap.specs.declared.fault.WrapFault.{WrapFault}
use Rattle.memberlist_wrap.specs.Reasons.{ReasonForIn}
use Rattle.memberlist_wrap.specs.Wrapping.{Unwraps}
use Rattle.memberlist_transport.specs.declared.fault.StreamFault.{StreamFault}
use Rattle.memberlist_transport.specs.declared.fault.StreamFault.TheVariants.{Wrapped, Closed, Unencrypted, NoStream, Empty}
use Rattle.memberlist_transport.specs.declared.in_the_clear.InTheClear.{InTheClear}
use Rattle.memberlist_transport.specs.InTheClear.{AcceptsClear}

-- the first byte of push/pull streams
abbrev pub BeginsAsStream : List ℕ → Type 0
BeginsAsStream bytes = (rest : List ℕ) × (bytes ≡ 6 ∷ rest)

-- the first byte of encrypted streams
abbrev pub BeginsAsSealed : List ℕ → Type 0
BeginsAsSealed bytes = (rest : List ℕ) × (bytes ≡ 10 ∷ rest)

-- the bytes wrap this message in the clear, and it starts as a push/pull stream does
abbrev pub IsClearStream : ℕ → List ℕ → List ℕ → Type 0
IsClearStream limit bytes stream = Unwraps limit bytes stream × BeginsAsStream stream

-- the unwrapped bytes start as an encrypted stream does
abbrev pub IsSealed : ℕ → List ℕ → Type 0
IsSealed limit bytes = (message : List ℕ) × Unwraps limit bytes message × BeginsAsSealed message

-- The bytes are the stream, in wrappers, if that is read, or encrypted under the first key that
-- decrypts them, and in wrappers in there. Nothing has more bytes than the limit.
pub data IsStreamIn (limit : ℕ) (policy : InTheClear) (keys : List (List ℕ))
    (bytes stream : List ℕ) : Type 0
  where
    clear : AcceptsClear policy keys → IsClearStream limit bytes stream
        → IsStreamIn limit policy keys bytes stream
    opened : (inner : List ℕ) → IsSealed limit bytes → OpensStreamFirst keys bytes inner
        → IsClearStream limit inner stream → IsStreamIn limit policy keys bytes stream

-- ---- refusals

-- what is said about a message that does not start as a push/pull stream does: that it is empty, or
-- its first byte
abbrev pub fault_of_start : List ℕ → StreamFault
fault_of_start [] = Empty
fault_of_start (first ∷ rest) = NoStream first

-- What a refusal says about bytes in the clear: why they wrap no message, or how the message in
-- them starts.
pub data ReasonForClear (limit : ℕ) (bytes : List ℕ) (fault : StreamFault) : Type 0 where
  broken : (cause : WrapFault) → ReasonForIn 4 limit cause bytes → fault ≡ Wrapped cause
      → ReasonForClear limit bytes fault
  other : (message : List ℕ) → Unwraps limit bytes message → ¬ BeginsAsStream message
      → fault ≡ fault_of_start message → ReasonForClear limit bytes fault

-- What a refusal says about bytes: what it says about them in the clear, if no key is tried; that
-- they are a stream in the clear, which is not read; that no key decrypts them, and the keyring's
-- fault; or what it says about what a key decrypts.
pub data ReasonFor (limit : ℕ) (policy : InTheClear) (keys : List (List ℕ)) (bytes : List ℕ)
    (fault : StreamFault) : Type 0
  where
    clear : ReasonForClear limit bytes fault → (IsSealed limit bytes → keys ≡ [])
        → ReasonFor limit policy keys bytes fault
    unencrypted : (stream : List ℕ) → IsClearStream limit bytes stream
        → ¬ AcceptsClear policy keys → fault ≡ Unencrypted
        → ReasonFor limit policy keys bytes fault
    closed : (cause : CipherFault) → IsSealed limit bytes
        → ((inner : List ℕ) → ¬ OpensStream keys bytes inner) → IsRefused StreamCause keys bytes cause
        → fault ≡ Closed cause → ReasonFor limit policy keys bytes fault
    opened : (inner : List ℕ) → IsSealed limit bytes → OpensStreamFirst keys bytes inner
        → ReasonForClear limit inner fault → ReasonFor limit policy keys bytes fault
