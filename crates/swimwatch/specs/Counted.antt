-- Under which kind a message is counted.
use Rattle.swim_claim.specs.Claim.{kind_of}
use Rattle.swim_claim.specs.declared.claim.Kind.{Kind as ClaimKind}
use Rattle.swim_claim.specs.declared.claim.Kind.TheVariants as claims
use Rattle.memberlist_message.specs.declared.message.Message.{Message}
use Rattle.memberlist_message.specs.declared.message.Message.TheVariants as message
use Rattle.swimwatch.specs.declared.shown.talkers.Kind.{Kind}
use Rattle.swimwatch.specs.declared.shown.talkers.Kind.TheVariants.{Ping, IndirectPing, Ack, Nack, Suspect, Alive, Dead, Left, User, Unread}

abbrev pub kind_of_claim : ClaimKind → Kind
kind_of_claim claims.Alive = Alive
kind_of_claim claims.Suspect = Suspect
kind_of_claim claims.Confirm = Dead
kind_of_claim claims.Leave = Left

-- an error is none of a datagram
abbrev pub kind_of_message : Message → Kind
kind_of_message (message.Ping ping) = Ping
kind_of_message (message.IndirectPing ping) = IndirectPing
kind_of_message (message.Ack ack) = Ack
kind_of_message (message.Nack nack) = Nack
kind_of_message (message.User bytes) = User
kind_of_message (message.Error response) = Unread
kind_of_message (message.Claim packet) = kind_of_claim (kind_of packet.claim)
