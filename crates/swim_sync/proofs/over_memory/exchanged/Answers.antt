use Rattle.std.proofs.Common.{◌∙◌, sym}
use Rattle.swim_sync.proofs.Exchanging.{alike_take, equal_are_join, both_take}
use Rattle.swim_sync.proofs.over_memory.exchanged.Goals as goal

-- tables that are equal are what both become
pub returns-in-Equal-clause-all : goal.returns-in-Equal-clause-all
returns-in-Equal-clause-all c =
    let first = c.args.first.now in
    let second = c.args.second.now in
    both_take first second first second (equal_are_join first second c.in-Equal.ensures)

pub returns-in-Ok-clause-all : goal.returns-in-Ok-clause-all
returns-in-Ok-clause-all c = both_take _ _ _ _ c.in-Ok.ensures.joins

pub returns-then-alike-clause-all : goal.returns-then-alike-clause-all
returns-then-alike-clause-all c = alike_take c.args.first.now c.args.second.now (c.requires c.if-alike.true)

pub returns-in-Equal-clause-same : goal.returns-in-Equal-clause-same
returns-in-Equal-clause-same c =
    let both = equal_are_join c.args.first.now c.args.second.now c.in-Equal.ensures in both.0 ∙ sym both.1
