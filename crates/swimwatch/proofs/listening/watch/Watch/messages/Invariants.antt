use Rattle.std.proofs.Common.{take}
use Rattle.swimwatch.specs.Views.{HearsMessages}
use Rattle.swimwatch.proofs.listening.watch.Watch.messages.Given as goal

abbrev pub invariant-loop-message : goal.invariant-loop-message
invariant-loop-message l =
    HearsMessages l.sent.time l.message-items (take l.message-index l.message-items)
    l.initial.self.listener.view l.self.listener.view
