use Rattle.std.proofs.Common.{refl, ◌∙◌}
use Rattle.capture.proofs.Parts.{first-taken}
use Rattle.capture.proofs.taking.fill_first.Goals as goal

pub returns-in-Ok : goal.returns-in-Ok
returns-in-Ok g c = first-taken c.pull.new.buf (c.pull.auto.buf ∙ c.requires) refl c.in-Ok.ensures.ok c.pull.ensures.faults_stay
