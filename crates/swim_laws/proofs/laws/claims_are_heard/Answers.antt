use Rattle.swim_laws.proofs.Claimed.{of_record, of_packet, claimed, was_claimed}
use Rattle.swim_laws.proofs.laws.claims_are_heard.Goals as goal

pub returns-clause-in_record : goal.returns-clause-in_record
returns-clause-in_record c = of_record

pub returns-clause-in_packet : goal.returns-clause-in_packet
returns-clause-in_packet c = of_packet

pub returns-clause-all : goal.returns-clause-all
returns-clause-all c = λ heard c. (was_claimed heard c, λ w. claimed heard w.0 c w.1 w.2)
