use Rattle.std.proofs.Common.{◌≡◌, inl, rules}
use Rattle.std.specs.Prelude.{◌≢◌}
use Rattle.swimwatch.specs.declared.heard.carriage.NoStream.TheVariants.{Memory}
use Rattle.swimwatch.proofs.listening.watch.Watch.take_stream.Goals as goal

pub returns-in-Err : goal.returns-in-Err
returns-in-Err c =
    let other : c.in-Err.cause ≢ Memory = search rules in
    let same : c.reach.new.self.listener.view ≡ c.args.self.now.listener.view = search rules in
    (inl (c.in-Err.ensures.none other), same)
