use Rattle.std.proofs.Common.{◌≡◌, ◌<◌, length, ap, rules, ◌∙◌}
use Rattle.swimwatch.proofs.Flowing.{whenever}
use Rattle.swimwatch.proofs.Seats.{alike_one, alike_same}
use Rattle.swimwatch.proofs.listening.seats.Seats.report.Goals as goal

pub returns-in-Some-clause-alike : goal.returns-in-Some-clause-alike
returns-in-Some-clause-alike c =
    let seats = c.args.self.now.seats.items in
    let old = c.in-Some.seat.now in
    let within : 0 < length seats = search rules in
    let same : c.report_line.new.self.listener.view ≡ old.watch.listener.view = search rules in
    whenever c.report_line.result
    (alike_one seats 0 old (record { watch = c.report_line.new.self; traffic = old.traffic }) within
    (same ∙ ap (λ s. s.watch.listener.view) c.in-Some.ensures.value) (ap (λ s. s.traffic) c.in-Some.ensures.value))

pub returns-in-None-clause-alike : goal.returns-in-None-clause-alike
returns-in-None-clause-alike c = alike_same c.args.self.now.seats.items
