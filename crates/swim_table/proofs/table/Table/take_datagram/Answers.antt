use Rattle.std.proofs.Common.{◌++◌, ◌∷◌, [], subst}
use Rattle.swim_table.specs.Table.{TableOf}
use Rattle.swim_table.proofs.table.Table.take_datagram.Goals as goal
use Rattle.swim_table.proofs.table.Table.take_datagram.Goals.{in-Ok, in-Err}

pub returns-after-take-clause-all : goal.returns-after-take-clause-all
returns-after-take-clause-all c = elim c.match-take.branch [
  | in-Ok w ↦
      rw (w.result-is, c.in-Packet.is)
      (λ claims own. subst (λ claim. TableOf c.take.new.self (claims ++ claim ∷ [])) c.into_claim.ensures (w.in-Ok.ensures.all claims own))
  | in-Err w ↦ rw w.result-is tt
]

pub returns-in_ok-claims-in_default-clause-all : goal.returns-in_ok-claims-in_default-clause-all
returns-in_ok-claims-in_default-clause-all c = rw (← c.in_ok-claims-in_default.ensures) c.take_all.ensures.all
