use Rattle.swim_c.proofs.watching.Watched.join_in.Goals as goal

pub returns-clause-joined : goal.returns-clause-joined
returns-clause-joined c = rw c.note.ensures.node c.join_in.ensures.all
