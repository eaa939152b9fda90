-- What a member says about itself, and what it makes of what others say about it.
use Rattle.std.specs.Prelude.{ℕ, ◌+◌, ◌==◌, ◌&&◌, ◌||◌, not, max, nat_lt, if◌then◌else◌, [], Option, Some, None}
use Rattle.std.specs.Ordering.{is_eq}
use Rattle.swim_claim.specs.Claim.{details_of, inc_of}
use Rattle.swim_claim.specs.Details.{DetailsValue, details_cmp}
use Rattle.swim_claim.specs.declared.claim.Claim.{Claim}
use Rattle.swim_claim.specs.declared.claim.Claim.TheVariants.{Alive, Leave}
use Rattle.swim_wire.specs.Packet.{PacketValue}
use Rattle.memberlist_view.specs.Rules.{is_same_place}
use Rattle.memberlist_member.specs.Claims.{packet_of}
use Rattle.memberlist_member.specs.declared.own.Own.{Own}
use Rattle.memberlist_member.specs.declared.own.Verdict.{Verdict}
use Rattle.memberlist_member.specs.declared.own.Verdict.TheVariants.{Stands, Refute, Conflict}

-- aliveNode: an Alive from another address or port is another member's; one that says the same at
-- the same incarnation stands
abbrev pub verdict_on_alive : Own → ℕ → DetailsValue → Verdict
verdict_on_alive own inc details =
    if not (is_same_place details own.details) then Conflict
    else if (inc == own.inc) && is_eq (details_cmp details own.details) then Stands
    else Refute

-- suspectNode, deadNode: what is no Alive is refuted
abbrev pub verdict_on_details : Own → ℕ → Option DetailsValue → Verdict
verdict_on_details own inc None = Refute
verdict_on_details own inc (Some details) = verdict_on_alive own inc details

-- a member that leaves refutes nothing, and nobody refutes an older claim
abbrev pub verdict_on : Own → Claim → Verdict
verdict_on own claim =
    if own.is_leaving || nat_lt (inc_of claim) own.inc then Stands
    else verdict_on_details own (inc_of claim) (details_of claim)

-- it says that it is alive
abbrev pub own_alive : Own → PacketValue
own_alive own = packet_of (Alive own.name own.inc own.details) []

-- it says that it leaves
abbrev pub own_leave : Own → PacketValue
own_leave own = packet_of (Leave own.name own.inc) own.name

-- refute: it says that it is alive at one more than its own incarnation and the accused one
abbrev pub outdone : Own → ℕ → Own
outdone own accused = record own { inc = max own.inc accused + 1 }
