use Rattle.std.proofs.Common.{◌∙◌, subst}
use Rattle.swim_claim.specs.declared.claim.Claim.TheVariants.{Suspect}
use Rattle.swim_table.specs.News.{HasAlso}
use Rattle.swim_table.proofs.Changed.{also_noted}
use Rattle.swim_table.proofs.news.note.Goals as goal
use Rattle.swim_table.proofs.news.note.Goals.{in-Ok, in-Err}

pub returns : goal.returns
returns c = elim c.match-take.branch [
  | in-Ok w ↦
      rw w.result-is
      (λ own. subst (λ n. HasAlso n c.args.names.now c.take.new.self) (c.in_ok-name.ensures ∙ c.name.ensures)
      (also_noted c.args.names.now c.take.new.self (Suspect c.in_ok-name.name 0) own w.in-Ok.ensures.ok))
  | in-Err w ↦ rw w.result-is tt
]
