-- What claims say to a member.
use Rattle.std.specs.Prelude.{ℕ, Bool, false, List}
use Rattle.swim_claim.specs.declared.claim.Claim.{Claim}
use Rattle.swim_claim.specs.declared.claim.Claim.TheVariants as claim
use Rattle.swim_wire.specs.Packet.{PacketValue}
use Rattle.memberlist_view.specs.Heard.{accuser_of}
use Rattle.memberlist_view.specs.declared.heard.Said.{Said}
use Rattle.memberlist_view.specs.declared.heard.Said.TheVariants.{Alive, Suspect, Dead, Left, Seen}

-- what a claim says to a member, from whom; a new name joins by it or does not
abbrev pub said_by : List ℕ → Bool → Claim → Said
said_by from joins (claim.Alive name inc details) = Alive name inc details joins
said_by from joins (claim.Suspect name inc) = Suspect name inc (accuser_of from)
said_by from joins (claim.Confirm name inc) = Dead name inc (accuser_of from)
said_by from joins (claim.Leave name inc) = Left name inc

-- what a packet says
abbrev pub said_of : PacketValue → Bool → Said
said_of packet joins = said_by packet.from joins packet.claim

-- mergeState: what a record of another member's table says: one that is dead there is suspected,
-- and the member that takes the table in says so itself
abbrev pub said_in_table : List ℕ → Claim → Said
said_in_table me (claim.Alive name inc details) = Alive name inc details false
said_in_table me (claim.Suspect name inc) = Suspect name inc (accuser_of me)
said_in_table me (claim.Confirm name inc) = Suspect name inc (accuser_of me)
said_in_table me (claim.Leave name inc) = Left name inc

-- the incarnation at which it is said
abbrev pub inc_in : Said → ℕ
inc_in (Alive name inc details joins) = inc
inc_in (Suspect name inc from) = inc
inc_in (Dead name inc from) = inc
inc_in (Left name inc) = inc
inc_in (Seen name place) = 0
