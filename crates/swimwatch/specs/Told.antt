-- What a message says about a member, and what is then heard about the member.
use Rattle.std.specs.Prelude.{ℕ, Bool, true, false, if◌then◌else◌, List, []}
use Rattle.swim_claim.specs.declared.claim.Claim.{Claim}
use Rattle.swim_wire.specs.Packet.{PacketValue}
use Rattle.memberlist_view.specs.declared.heard.Heard.{Heard}
use Rattle.memberlist_view.specs.declared.heard.Said.{Said}
use Rattle.memberlist_view.specs.Heard.{accuser_of, said_in_packet, said_in_record}
use Rattle.swimwatch.specs.declared.heard.told.Told.{Told}

-- a claim, the bytes that name who makes it, whether it is in a record of a stream, and whether a
-- new name joins by it
pub record ToldText : Type 0 where
  pub claim : Claim
  pub from : List ℕ
  pub is_record : Bool
  pub joins : Bool

abbrev pub told_text : Told → ToldText
told_text t =
    record { claim = t.claim.now; from = t.from.now; is_record = t.is_record; joins = t.joins }

-- what a packet says
abbrev pub packet_told : PacketValue → ToldText
packet_told p = record { claim = p.claim; from = p.from; is_record = false; joins = true }

-- what a record of a stream says: nobody is named
abbrev pub record_told : Claim → Bool → ToldText
record_told c joins = record { claim = c; from = []; is_record = true; joins = joins }

-- what is said: by a packet what it says itself, by a record what it means to a member that merges
-- it
abbrev pub said_of : ToldText → Said
said_of t =
    if t.is_record then said_in_record t.claim t.joins
    else said_in_packet t.claim (accuser_of t.from)

-- what is heard at a time
abbrev pub heard_of : ℕ → ToldText → Heard
heard_of time t = record { time = time; said = said_of t }
