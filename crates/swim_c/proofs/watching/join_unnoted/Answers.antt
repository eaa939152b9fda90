use Rattle.std.proofs.Common.{OnOk, List, ◌++◌, sym, subst}
use Rattle.swim_claim.specs.declared.claim.Claim.{Claim}
use Rattle.swim_table.specs.Table.{Entries, TableOf}
use Rattle.swim_c.proofs.watching.join_unnoted.Goals.{in-Ok, in-Err}
use Rattle.swim_c.proofs.watching.join_unnoted.Goals as goal

-- what is said of the claims if the join was made
abbrev Joined : Entries → Entries → Entries → Type 0
Joined table other new = (claims others : List Claim) → TableOf table claims → TableOf other others → TableOf new (claims ++ others)

pub returns-clause-joined : goal.returns-clause-joined
returns-clause-joined c = elim c.match-join.branch [
  | in-Ok w ↦ subst (λ r. OnOk r (Joined c.args.node.now.table c.args.other c.join.new.self)) (sym w.result-is)
      (subst (λ (t : Entries). Joined t c.args.other c.join.new.self) c.table_mut.ensures.table w.in-Ok.ensures.all)
  | in-Err w ↦ subst (λ r. OnOk r (Joined c.args.node.now.table c.args.other c.join.new.self)) (sym w.result-is) tt
]
