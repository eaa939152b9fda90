use Rattle.swimwatch.specs.Rosters.{differ_about}
use Rattle.swimwatch.proofs.Changes.{some_name}
use Rattle.swimwatch.proofs.shown.changes.write_change_objects.Goals as goal

pub returns : goal.returns
returns c = some_name c.in_ok-names.names.entries (λ name. differ_about c.args.before.now c.args.after.now name) _ c.in_ok-names.ensures c.is_empty.ensures
