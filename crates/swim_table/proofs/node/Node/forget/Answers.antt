use Rattle.swim_table.proofs.node.Node.forget.Goals as goal

pub returns-clause-all : goal.returns-clause-all
returns-clause-all c = rw (← c.self.view_is) c.forget.ensures.all
