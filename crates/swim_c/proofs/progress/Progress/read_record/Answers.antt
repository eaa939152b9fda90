use Rattle.std.proofs.Common.{OnOk, sym, subst}
use Rattle.swim_c.specs.Progressing.{IsProgressIn}
use Rattle.swim_c.proofs.progress.Progress.read_record.Goals.{in-Ok, in-Err}
use Rattle.swim_c.proofs.progress.Progress.read_record.Goals as goal

pub returns-clause-progress : goal.returns-clause-progress
returns-clause-progress c = elim c.match-take_record.branch [
  | in-Ok w ↦ subst (λ r. OnOk r (IsProgressIn c.args.bytes.now c.args.self.now
      → IsProgressIn c.args.bytes.now c.take_record.new.self)) (sym w.result-is) w.in-Ok.ensures.progress
  | in-Err w ↦ subst (λ r. OnOk r (IsProgressIn c.args.bytes.now c.args.self.now
      → IsProgressIn c.args.bytes.now c.take_record.new.self)) (sym w.result-is) tt
]
