use Rattle.std.proofs.Common.{◌≡◌, true}
use Rattle.swim_c.specs.Progressing.{IsProgressIn}
use Rattle.swim_c.proofs.progress.Progress.read_all.Given as goal

abbrev pub invariant-loop-self : goal.invariant-loop-self
invariant-loop-self l = record {
  header : l.self.has_header ≡ true;
  progress : IsProgressIn l.bytes l.fn.self → IsProgressIn l.bytes l.self;
}

abbrev pub decreases-loop-self : goal.decreases-loop-self
decreases-loop-self l = l.self.left
