use Rattle.std.proofs.Common.{List, ◌++◌, subst}
use Rattle.swim_claim.specs.declared.claim.Claim.{Claim}
use Rattle.swim_wire.specs.PacketList.{claims_in}
use Rattle.swim_table.specs.Table.{Entries, TableOf}
use Rattle.swim_c.proofs.Noting.{from_none, taken_on_ok}
use Rattle.swim_c.proofs.watching.Watched.join_datagram.Goals as goal

pub returns-clause-takes : goal.returns-clause-takes
returns-clause-takes c =
    let other = c.take_datagram.new.self in
    let claims = claims_in c.args.datagram in
    let made : TableOf other claims =
    from_none other claims (subst (λ (t : Entries). (taken : List Claim) → TableOf t taken
    → TableOf other (taken ++ claims)) c.new-other.ensures
    c.in_ok-take_datagram.ensures.all) in
    taken_on_ok c.join.result c.args.self.now.node.table c.join.new.self.node.table other claims
    c.join.ensures.legal made c.join.ensures.joined
