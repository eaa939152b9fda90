use Rattle.std.proofs.Common.{◌≡◌, ◌∙◌, ℕ, List, IfOk, subst}
use Rattle.swim_claim.specs.declared.claim.Claim.{Claim}
use Rattle.memberlist_view.specs.Heard.{accuser_of, said_in_packet}
use Rattle.memberlist_view.specs.declared.heard.Said.{Said}
use Rattle.swim_c.proofs.view.hearing.said_by.Goals as goal

pub returns : goal.returns
returns c =
    let packet = c.args.packet.now in
    subst (λ (claim : Claim). IfOk c.of_packet.result (λ (said : Said). said ≡ said_in_packet claim (accuser_of packet.from)))
    (c.in_ok-claim.ensures ∙ c.claim.ensures)
    (subst (λ (from : List ℕ). IfOk c.of_packet.result (λ (said : Said). said ≡ said_in_packet c.in_ok-claim.claim (accuser_of from)))
    c.from_name.ensures.from c.of_packet.ensures)
