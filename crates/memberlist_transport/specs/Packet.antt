-- The message of a packet: in the clear, or encrypted under a key.
use Rattle.std.specs.Prelude.{◌≡◌, ◌≢◌, ◌⊎◌, ◌<◌, ℕ, List, [], Result, Err}
use Rattle.memberlist_keyring.specs.Opening.{Opens, OpensFirst}
use Rattle.memberlist_wrap.specs.Reasons.{ReasonForIn}
use Rattle.memberlist_wrap.specs.Wrapping.{Unwraps}
use Rattle.memberlist_transport.specs.declared.fault.PacketFault.{PacketFault}
use Rattle.memberlist_transport.specs.declared.fault.PacketFault.TheVariants.{Wrapped, NoMessage, NoKeyFits, Unencrypted}
use Rattle.memberlist_transport.specs.declared.in_the_clear.InTheClear.{InTheClear}
use Rattle.memberlist_transport.specs.InTheClear.{AcceptsClear}
use Rattle.memberlist_transport.specs.declared.message.Message.{Message}
use Rattle.memberlist_transport.specs.Message.{IsMessage, IsNoMessage}

-- how many bytes a packet's message may have
abbrev pub max_message_len : ℕ
max_message_len = 1048576

-- ---- in the clear

-- the bytes wrap the message
abbrev pub HoldsClear : List ℕ → Message → Type 0
HoldsClear bytes message =
    (inner : List ℕ) × Unwraps max_message_len bytes inner × IsMessage inner message

-- why the bytes hold no message: they wrap nothing, or the unwrapped bytes are not a message
abbrev pub FailsClear : List ℕ → PacketFault → Type 0
FailsClear bytes (Wrapped fault) = ReasonForIn 4 max_message_len fault bytes
    × ((message : List ℕ) → ¬ Unwraps max_message_len bytes message)
FailsClear bytes (NoMessage first) =
    (message : List ℕ) × Unwraps max_message_len bytes message × IsNoMessage message first
FailsClear bytes fault = ⊥

-- ---- with keys

-- the bytes hold no message, and the unwrapped bytes start with a version of encryption
abbrev pub IsUnclear : List ℕ → Type 0
IsUnclear bytes = (first : ℕ) × (first < 2) × FailsClear bytes (NoMessage first)

-- The packet has the message: in the clear, if that is read, or under the first key that decrypts
-- it.
pub data Holds (policy : InTheClear) (keys : List (List ℕ)) (bytes : List ℕ)
    (message : Message) : Type 0
  where
    clear : AcceptsClear policy keys → HoldsClear bytes message → Holds policy keys bytes message
    opened : (inner : List ℕ) → IsUnclear bytes → OpensFirst keys bytes inner
        → HoldsClear inner message → Holds policy keys bytes message

-- Why the packet has none: in the clear, if no key is tried; because it is in the clear, and that
-- is not read; because no key decrypts it; or in what the key decrypts.
pub data Fails (policy : InTheClear) (keys : List (List ℕ)) (bytes : List ℕ)
    (fault : PacketFault) : Type 0
  where
    clear : FailsClear bytes fault → (IsUnclear bytes → keys ≡ [])
        → Fails policy keys bytes fault
    unencrypted : (message : Message) → HoldsClear bytes message → ¬ AcceptsClear policy keys
        → fault ≡ Unencrypted → Fails policy keys bytes fault
    closed : IsUnclear bytes → keys ≢ [] → ((inner : List ℕ) → ¬ Opens keys bytes inner)
        → fault ≡ NoKeyFits → Fails policy keys bytes fault
    opened : (inner : List ℕ) → IsUnclear bytes → OpensFirst keys bytes inner
        → FailsClear inner fault → Fails policy keys bytes fault

-- ---- intermediate steps

-- it says that there is a version of encryption and no message
abbrev pub IsUnclearResult : Result Message PacketFault → Type 0
IsUnclearResult (Err (NoMessage first)) = first < 2
IsUnclearResult result = ⊥

-- the message in what a key decrypts
abbrev pub HoldsOpened : List (List ℕ) → List ℕ → Message → Type 0
HoldsOpened keys bytes message =
    (inner : List ℕ) × OpensFirst keys bytes inner × HoldsClear inner message

-- why there is none in what a key may decrypt
abbrev pub FailsOpened : List (List ℕ) → List ℕ → PacketFault → Type 0
FailsOpened keys bytes fault =
    (((inner : List ℕ) → ¬ Opens keys bytes inner) × (fault ≡ NoKeyFits))
    ⊎ ((inner : List ℕ) × OpensFirst keys bytes inner × FailsClear inner fault)
