use Rattle.swim_table.proofs.node.Node.join_in.Goals as goal

pub returns-clause-all : goal.returns-clause-all
returns-clause-all c = rw (← c.self.view_is) c.join_in.ensures.all
