-- The messages of packets.
use Rattle.std.specs.Prelude.{◌≡◌, ℕ, ◌==◌, List, [], ◌∷◌, Option, Some, None, if◌then◌else◌}
use Rattle.swim_wire.specs.declared.claimless.Claimless.{Claimless}
use Rattle.swim_wire.specs.Claimless.{ClaimlessText}
use Rattle.memberlist_transport.specs.declared.message.Claiming.{Claiming}
use Rattle.memberlist_transport.specs.declared.message.Claiming.TheVariants.{Suspect, Alive, Dead, Compound}
use Rattle.memberlist_transport.specs.declared.message.Message.{Message}
use Rattle.memberlist_transport.specs.declared.message.Message.TheVariants as message

-- the kind of message that makes claims and starts with this byte (memberlist's net.go)
abbrev pub claiming_kind : ℕ → Option Claiming
claiming_kind first =
    if first == 3 then Some Suspect else
    if first == 4 then Some Alive else
    if first == 5 then Some Dead else
    if first == 7 then Some Compound else None

-- the kind of these bytes, by the first of them
abbrev pub claiming_of : List ℕ → Option Claiming
claiming_of [] = None
claiming_of (first ∷ rest) = claiming_kind first

-- the bytes are the message: they start as one that makes claims, or are a whole one of a kind that
-- makes none, or there are none
abbrev pub IsMessage : List ℕ → Message → Type 0
IsMessage bytes (message.Claims kind copy) = (claiming_of bytes ≡ Some kind) × (copy.items ≡ bytes)
IsMessage bytes (message.Claimless kind) = ClaimlessText bytes kind
IsMessage bytes message.Empty = bytes ≡ []

-- the bytes start with this one, make no claims, and are not a whole message of a kind that makes
-- none
abbrev pub IsNoMessage : List ℕ → ℕ → Type 0
IsNoMessage bytes first =
    ((rest : List ℕ) × (bytes ≡ first ∷ rest)) × (claiming_of bytes ≡ None)
    × ((kind : Claimless) → ¬ ClaimlessText bytes kind)
