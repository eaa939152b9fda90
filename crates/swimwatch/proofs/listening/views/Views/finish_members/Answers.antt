use Rattle.swimwatch.proofs.Seats.{alike_same}
use Rattle.swimwatch.proofs.listening.views.Views.finish_members.Goals as goal

pub returns-in-Text : goal.returns-in-Text
returns-in-Text c = alike_same c.args.self.now.seats.seats.items
