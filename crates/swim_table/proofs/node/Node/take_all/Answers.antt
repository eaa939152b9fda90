use Rattle.swim_table.proofs.node.Node.take_all.Goals as goal

pub returns-clause-all : goal.returns-clause-all
returns-clause-all c = rw (← c.self.view_is) c.take_all.ensures.all
