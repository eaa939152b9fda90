use Rattle.swimwatch.proofs.Seats.{alike_same}
use Rattle.swimwatch.proofs.listening.views.Views.tell_query.Goals as goal

pub returns-clause-alike : goal.returns-clause-alike
returns-clause-alike c = alike_same c.args.self.now.seats.seats.items
