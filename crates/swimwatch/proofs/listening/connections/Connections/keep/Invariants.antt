use Rattle.swimwatch.specs.Connected.{HandsOver}
use Rattle.swimwatch.proofs.listening.connections.Connections.keep.Given as goal

abbrev pub invariant-loop : goal.invariant-loop
invariant-loop l = HandsOver l.opening.clear l.opening.keys.now l.initial.self l.initial.watch.listener.view l.self
    l.watch.listener.view
