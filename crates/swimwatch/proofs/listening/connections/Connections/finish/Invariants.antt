use Rattle.capture.specs.OpenFlows.{flows_len}
use Rattle.swimwatch.specs.Connected.{HandsOver}
use Rattle.swimwatch.proofs.listening.connections.Connections.finish.Given as goal

abbrev pub decreases-loop-ends : goal.decreases-loop-ends
decreases-loop-ends l = flows_len l.self.flows

abbrev pub invariant-loop-ends : goal.invariant-loop-ends
invariant-loop-ends l = HandsOver l.opening.clear l.opening.keys.now l.initial.self l.initial.watch.listener.view l.self
    l.watch.listener.view
