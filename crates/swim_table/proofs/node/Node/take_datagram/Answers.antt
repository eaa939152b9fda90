use Rattle.swim_table.proofs.node.Node.take_datagram.Goals as goal

pub returns-clause-all : goal.returns-clause-all
returns-clause-all c = rw (← c.self.view_is) c.take_datagram.ensures.all
