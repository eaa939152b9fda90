-- The messages of a datagram: what its leaves are read as, and those in its compressed leaves.
use Rattle.std.specs.Prelude.{◌≡◌, ◌⊎◌, ℕ, ◌-◌, ◌==◌, Bool, true, false, MatchBool, List, [], ◌∷◌, ◌++◌, map, length, Result, Ok, Err}
use Rattle.std.specs.List.{list_all}
use Rattle.swim_wire.specs.declared.fault.WireFault.{WireFault}
use Rattle.memberlist_cipher.specs.Label.{IsLabelled}
use Rattle.memberlist_message.specs.declared.message.Message.{Message}
use Rattle.memberlist_message.specs.declared.message.Message.TheVariants as message
use Rattle.memberlist_message.specs.Leaves.{AreLeaves}
use Rattle.memberlist_message.specs.Messages.{MessageValue, message_of, message_value}
use Rattle.memberlist_transport.specs.declared.in_the_clear.InTheClear.{InTheClear}
use Rattle.memberlist_transport.specs.Unwrapped.{IsInside}
use Rattle.memberlist_wrap.specs.Wrapping.{Unwraps}
use Rattle.swimwatch.specs.declared.heard.carriage.Carriage.{Carriage}
use Rattle.swimwatch.specs.declared.heard.carriage.Carriage.TheVariants.{Read}

-- these messages, as data
abbrev pub values : List Message → List MessageValue
values messages = map message_value messages

abbrev pub if_read : Result MessageValue WireFault → List MessageValue
if_read (Ok message) = message ∷ []
if_read (Err error) = []

-- the messages that these parts are; what is none is left out
abbrev pub messages_in : List (List ℕ) → List MessageValue
messages_in [] = []
messages_in (part ∷ parts) = if_read (message_of part) ++ messages_in parts

abbrev pub is_compressed : List ℕ → Bool
is_compressed [] = false
is_compressed (first ∷ rest) = first == 9

-- net.go, handleCompressed: the leaves in a compressed part follow what was read, if it becomes at
-- most so many bytes; and how many are left for others (own)
pub data Unpacks (room : ℕ) (part : List ℕ) (old new : List MessageValue) (left : ℕ) : Type 0 where
  inside : (inner : List ℕ) (leaves : List (List ℕ)) (truncated : ℕ) → Unwraps room part inner
      → AreLeaves (inner ∷ []) leaves truncated → new ≡ old ++ messages_in leaves
      → left ≡ room - length inner → Unpacks room part old new left
  refused : ((inner : List ℕ) → ¬ Unwraps room part inner) → new ≡ old → left ≡ room
      → Unpacks room part old new left

-- a leaf is read
abbrev pub Gives : ℕ → List ℕ → List MessageValue → List MessageValue → ℕ → Type 0
Gives room part old new left = MatchBool (is_compressed part) (Unpacks room part old new left)
    ((new ≡ old ++ if_read (message_of part)) × (left ≡ room))

-- leaves are read in order
abbrev pub Reads : ℕ → List (List ℕ) → List MessageValue → List MessageValue → ℕ → Type 0
Reads room [] old new left = (new ≡ old) × (left ≡ room)
Reads room (part ∷ parts) old new left = (mid : List MessageValue) × (rest : ℕ)
    × Gives room part old mid rest × Reads rest parts mid new left

-- A datagram has these messages: those of its leaves. All compressed ones become at most 2^20
-- bytes.
abbrev pub IsReadAs : List ℕ → List MessageValue → Type 0
IsReadAs bytes messages = (leaves : List (List ℕ)) × (truncated : ℕ) × (left : ℕ)
    × AreLeaves (bytes ∷ []) leaves truncated × Reads 1048576 leaves [] messages left

-- A packet carries these messages: those of the bytes in it, which a key decrypts, or which are in
-- the clear, if that is read.
abbrev pub CarriesMessages : InTheClear → List (List ℕ) → List ℕ → List Message → Type 0
CarriesMessages clear keys bytes messages =
    (inner : List ℕ) × IsInside clear keys bytes inner × IsReadAs inner (values messages)

-- a ping, direct or indirect, that does not name whom it asks
abbrev pub is_nameless : Message → Bool
is_nameless (message.Ping ping) = length ping.node.items == 0
is_nameless (message.IndirectPing ping) = length ping.node.items == 0
is_nameless (message.Ack ack) = false
is_nameless (message.Nack nack) = false
is_nameless (message.User bytes) = false
is_nameless (message.Error response) = false
is_nameless (message.Claim packet) = false

-- there are no messages, or only such pings
abbrev pub AreNameless : List Message → Type 0
AreNameless messages = list_all is_nameless messages ≡ true

-- A packet carries nothing, neither under a key nor in the clear where that is read; or only pings
-- that name nobody, which are taken for encrypted bytes.
abbrev pub CarriesNothing : InTheClear → List (List ℕ) → List ℕ → Type 0
CarriesNothing clear keys bytes = ((inner : List ℕ) → ¬ IsInside clear keys bytes inner)
    ⊎ ((messages : List Message) × CarriesMessages clear keys bytes messages
    × AreNameless messages)

-- what was read are the messages of these bytes; if nothing was read, they name nobody
abbrev pub IsReadFrom : List ℕ → Carriage → Type 0
IsReadFrom bytes (Read messages) = IsReadAs bytes (values messages.read.items)
IsReadFrom bytes other = (messages : List Message) × IsReadAs bytes (values messages)
    × AreNameless messages

-- what was read are the messages that a packet carries; if nothing was read, it carries nothing
abbrev pub IsCarriageOf : InTheClear → List (List ℕ) → List ℕ → Carriage → Type 0
IsCarriageOf clear keys bytes (Read messages) =
    CarriesMessages clear keys bytes messages.read.items
IsCarriageOf clear keys bytes other = CarriesNothing clear keys bytes

-- A packet is of the cluster with this label; if there is none, each is.
abbrev pub IsOfCluster : List ℕ → List ℕ → Type 0
IsOfCluster label bytes = (label ≡ []) ⊎ ((rest : List ℕ) × IsLabelled bytes label rest)
