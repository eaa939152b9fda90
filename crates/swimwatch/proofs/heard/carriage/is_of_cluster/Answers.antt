use Rattle.std.proofs.Common.{◌≢◌, [], rules}
use Rattle.std.proofs.lemmas.Bool.Decides.{Decides-eqb}
use Rattle.std.proofs.lemmas.Slice.Eq.{slice_eq-Decides}
use Rattle.swimwatch.proofs.Clusters.{by_label}
use Rattle.swimwatch.proofs.heard.carriage.is_of_cluster.Goals as goal

pub returns-in-Ok : goal.returns-in-Ok
returns-in-Ok c =
    let label = c.args.label.now in
    let some : label ≢ [] = search rules in
    by_label label c.in-Ok.other.now c.in-Ok.field-0-1.now c.args.payload.now c.eq.result some c.in-Ok.ensures.label
    (slice_eq-Decides Decides-eqb c.in-Ok.other.now label c.eq.result c.eq.ensures)
