-- The packets of messages that make claims, within the limits of claims.
use Rattle.std.specs.Prelude.{ℕ, ◌==◌, ◌||◌, nat_lt, Bool, true, false, List, [], length, Result, Ok, Err, if◌then◌else◌}
use Rattle.std.specs.Str.{bytes_eq}
use Rattle.swim_claim.specs.declared.claim.Claim.{Claim}
use Rattle.swim_claim.specs.declared.claim.Claim.TheVariants.{Alive, Suspect, Confirm, Leave}
use Rattle.swim_claim.specs.Details.{DetailsValue}
use Rattle.swim_claim.specs.Limits.{max_name_len, max_meta_len}
use Rattle.swim_wire.specs.declared.fault.WireFault.{WireFault}
use Rattle.swim_wire.specs.declared.fault.WireFault.TheVariants.{NameEmpty, TooLong, BadAddress, BadVersions}
use Rattle.swim_wire.specs.Packet.{PacketValue}
use Rattle.memberlist_message.specs.Slots.{Slots, slot, long_or_zero, short_or_zero, raw_or_empty}

-- what the second makes of what the first gives, or the fault
abbrev pub and_then : {A B : Type 0} → Result A WireFault → (A → Result B WireFault) → Result B WireFault
and_then (Ok x) next = next x
and_then (Err fault) next = Err fault

-- a name has at least one byte, and at most 1,024
abbrev pub name_of : List ℕ → Result (List ℕ) WireFault
name_of name =
    if length name == 0 then Err NameEmpty else
    if nat_lt max_name_len (length name) then Err TooLong else Ok name

-- the name of the member that makes a claim may be empty
abbrev pub from_of : List ℕ → Result (List ℕ) WireFault
from_of name = if nat_lt max_name_len (length name) then Err TooLong else Ok name

-- details, if the address, the metadata and the versions are legal, in this order
abbrev pub details_of : DetailsValue → Result DetailsValue WireFault
details_of details =
    if (length details.addr == 4) || (length details.addr == 16)
    then (if nat_lt max_meta_len (length details.meta) then Err TooLong
    else (if (length details.vsn == 0) || (length details.vsn == 6)
    then Ok details else Err BadVersions))
    else Err BadAddress

-- the number at an index, or 0
abbrev pub long_in : Slots → ℕ → ℕ
long_in slots place = long_or_zero (slot slots place)

-- the number at an index, or 0
abbrev pub short_in : Slots → ℕ → ℕ
short_in slots place = short_or_zero (slot slots place)

-- the text or bytes at an index, or none
abbrev pub raw_in : Slots → ℕ → List ℕ
raw_in slots place = raw_or_empty (slot slots place)

-- an alive message: Incarnation, Node, Addr, Port, Meta, Vsn
abbrev pub alive_of : Slots → Result PacketValue WireFault
alive_of slots =
    and_then (name_of (raw_in slots 1)) (λ name.
    and_then (details_of (record {
      addr = raw_in slots 2;
      port = short_in slots 3;
      meta = raw_in slots 4;
      vsn = raw_in slots 5;
    })) (λ details. Ok (record { claim = Alive name (long_in slots 0) details; from = [] })))

-- a suspect message: Incarnation, Node, From
abbrev pub suspect_of : Slots → Result PacketValue WireFault
suspect_of slots =
    and_then (name_of (raw_in slots 1)) (λ name.
    and_then (from_of (raw_in slots 2)) (λ from.
    Ok (record { claim = Suspect name (long_in slots 0); from = from })))

-- a member that is dead by its own claim has left
abbrev pub dead_claim : Bool → List ℕ → ℕ → Claim
dead_claim true name inc = Leave name inc
dead_claim false name inc = Confirm name inc

-- a dead message: Incarnation, Node, From
abbrev pub dead_of : Slots → Result PacketValue WireFault
dead_of slots =
    and_then (name_of (raw_in slots 1)) (λ name.
    and_then (from_of (raw_in slots 2)) (λ from.
    Ok (record { claim = dead_claim (bytes_eq from name) name (long_in slots 0); from = from })))
