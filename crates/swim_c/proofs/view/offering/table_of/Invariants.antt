use Rattle.swim_c.proofs.Offering.{HasAllBut}
use Rattle.swim_c.proofs.view.offering.table_of.Given as goal

abbrev pub invariant-loop-each : goal.invariant-loop-each
invariant-loop-each l = HasAllBut l.fn.view.entries l.each-iterator l.table
