-- The messages that make no claim: which bytes are which kind, and their reading.
use Rattle.std.specs.Prelude.{◌≡◌, ◌⊎◌, ℕ, ◌==◌, List, [], ◌∷◌, length, Option, Some, None, Result, Ok, Err, if◌then◌else◌}
use Rattle.swim_claim.specs.Limits.{max_name_len}
use Rattle.swim_wire.specs.declared.claimless.Claimless.{Claimless}
use Rattle.swim_wire.specs.declared.claimless.Claimless.TheVariants.{Ping, IndirectPing, Ack, User, Nack, Error}
use Rattle.swim_wire.specs.declared.fault.WireFault.{WireFault}
use Rattle.swim_wire.specs.declared.fault.WireFault.TheVariants.{Ended, Memory, WrongType}
use Rattle.swim_wire.specs.declared.layout.Key.TheVariants as keys
use Rattle.swim_wire.specs.declared.layout.Limit.TheVariants as limits
use Rattle.swim_wire.specs.Keys.{key_text}
use Rattle.swim_wire.specs.Layout.{Layout, Pairs, MapText}
use Rattle.swim_wire.specs.Reading.{Slots, map_at, nothing_after}

-- the first byte of such a message
abbrev pub type_of : Claimless → ℕ
type_of Ping = 0
type_of IndirectPing = 1
type_of Ack = 2
type_of User = 8
type_of Nack = 11
type_of Error = 13

-- memberlist's ping, indirectPingReq, ackResp, nackResp and errResp. The number is the maximum
-- length of a payload and of the text of an error. A user message has no map.
abbrev pub claimless_layout : ℕ → Claimless → Layout
claimless_layout limit Ping =
    (key_text keys.Node, limits.Raw max_name_len) ∷ (key_text keys.SeqNo, limits.Number 0xffff_ffff)
    ∷ (key_text keys.SourceAddr, limits.Raw 16)
    ∷ (key_text keys.SourceNode, limits.Raw max_name_len)
    ∷ (key_text keys.SourcePort, limits.Number 0xffff) ∷ []
claimless_layout limit IndirectPing =
    (key_text keys.Nack, limits.Flag) ∷ (key_text keys.Node, limits.Raw max_name_len)
    ∷ (key_text keys.Port, limits.Number 0xffff) ∷ (key_text keys.SeqNo, limits.Number 0xffff_ffff)
    ∷ (key_text keys.SourceAddr, limits.Raw 16)
    ∷ (key_text keys.SourceNode, limits.Raw max_name_len)
    ∷ (key_text keys.SourcePort, limits.Number 0xffff) ∷ (key_text keys.Target, limits.Raw 16) ∷ []
claimless_layout limit Ack =
    (key_text keys.Payload, limits.Raw limit)
    ∷ (key_text keys.SeqNo, limits.Number 0xffff_ffff) ∷ []
claimless_layout limit User = []
claimless_layout limit Nack = (key_text keys.SeqNo, limits.Number 0xffff_ffff) ∷ []
claimless_layout limit Error = (key_text keys.Error, limits.Raw limit) ∷ []

-- the bytes are one map of the layout
abbrev pub IsMapOf : Layout → List ℕ → Type 0
IsMapOf layout b = (pairs : Pairs) × MapText layout b pairs

-- what follows the first byte: any bytes in a user message, else one map of the message's own keys
abbrev pub BodyText : List ℕ → Claimless → Type 0
BodyText body User = Unit {0}
BodyText body kind = IsMapOf (claimless_layout (length body) kind) body

-- The bytes are a whole message of this kind.
pub record ClaimlessText (b : List ℕ) (kind : Claimless) : Type 0 where
  pub body : List ℕ
  pub text : b ≡ type_of kind ∷ body
  pub is : BodyText body kind

-- ---- the reading

-- the kind of message that starts with this byte
abbrev pub claimless_kind : ℕ → Option Claimless
claimless_kind first =
    if first == 0 then Some Ping else
    if first == 1 then Some IndirectPing else
    if first == 2 then Some Ack else
    if first == 8 then Some User else
    if first == 11 then Some Nack else
    if first == 13 then Some Error else None

-- the values of a map of the layout with nothing after it
abbrev pub whole_map : Layout → List ℕ → Result Slots WireFault
whole_map layout bytes = nothing_after (map_at layout bytes)

-- the values after the first byte
abbrev pub whole_body : Claimless → List ℕ → Result Slots WireFault
whole_body User body = Ok []
whole_body kind body = whole_map (claimless_layout (length body) kind) body

-- the kind, if its values were read
abbrev pub as_kind : Claimless → Result Slots WireFault → Result Claimless WireFault
as_kind kind (Ok slots) = Ok kind
as_kind kind (Err fault) = Err fault

-- the message after a first byte of this kind, or the refusal of a byte of no kind
abbrev pub behind_type : ℕ → List ℕ → Option Claimless → Result Claimless WireFault
behind_type first body None = Err (WrongType first)
behind_type first body (Some kind) = as_kind kind (whole_body kind body)

-- which message the bytes are, or why they are not one
abbrev pub whole_claimless : List ℕ → Result Claimless WireFault
whole_claimless [] = Err Ended
whole_claimless (first ∷ body) = behind_type first body (claimless_kind first)

-- it succeeds if this does, and is refused as this is, unless memory ran out
abbrev pub IsReadUnlessMemory : {A X : Type 0} → Result A WireFault → Result X WireFault → Type 0
IsReadUnlessMemory {A} wanted (Ok x) = (value : A) × (wanted ≡ Ok value)
IsReadUnlessMemory wanted (Err error) = (wanted ≡ Err error) ⊎ (error ≡ Memory)
