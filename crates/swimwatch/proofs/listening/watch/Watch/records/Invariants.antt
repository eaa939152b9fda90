use Rattle.swimwatch.specs.Records.{claims_in}
use Rattle.swimwatch.specs.Views.{HearsRecords}
use Rattle.swimwatch.proofs.listening.watch.Watch.records.Given as goal

abbrev pub invariant-loop-record : goal.invariant-loop-record
invariant-loop-record l =
    HearsRecords l.sent.time (claims_in l.yielded) l.initial.self.listener.view l.self.listener.view
