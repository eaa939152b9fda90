use Rattle.swim_sync.proofs.Exchanging.{joined_in}
use Rattle.swim_sync.proofs.push_pull.finish.Goals as goal

pub returns-clause-takes : goal.returns-clause-takes
returns-clause-takes g c =
    joined_in (g.I.Inlet.seen c.args.inlet.now) (g.I.Inlet.seen c.read_stream.new.inlet) c.args.table.now c.in_ok-replied.replied
    c.join_in.new.self c.in_ok-replied.join c.in_ok-replied.ensures.takes c.join_in.ensures.join c.join_in.ensures.all
