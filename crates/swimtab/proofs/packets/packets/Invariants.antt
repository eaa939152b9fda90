use Rattle.std.proofs.Common.{List, map}
use Rattle.swim_claim.specs.declared.claim.Claim.{Claim}
use Rattle.swim_table.specs.Table.{TableOf}
use Rattle.swimtab.specs.Lines.{EachLine}
use Rattle.swimtab.proofs.packets.packets.Given as goal

abbrev pub invariant-loop-index : goal.invariant-loop-index
invariant-loop-index l =
    (goal.iterator-loop-index).can_next l.index-iterator ×
    (goal.iterator-loop-index).is_finite l.index-iterator ×
    ((claims : List Claim) × TableOf l.table claims × EachLine (map (λ p. p.1.now) l.yielded) claims)
