use Rattle.std.proofs.Common.{◌≡◌, ◌<◌, length, ap, rules, ◌∙◌}
use Rattle.swimwatch.proofs.Flowing.{whenever}
use Rattle.swimwatch.proofs.Seats.{alike_one, alike_same}
use Rattle.swimwatch.proofs.listening.seats.Seats.print.Goals as goal

pub returns-in-Some-clause-alike : goal.returns-in-Some-clause-alike
returns-in-Some-clause-alike c =
    let seats = c.args.self.now.seats.items in
    let old = c.in-Some.seat.now in
    let within : c.args.view < length seats = search rules in
    let same : c.collect.new.watch.listener.view ≡ old.watch.listener.view = search rules in
    whenever c.collect.result
    (alike_one seats c.args.view old (record { watch = c.collect.new.watch; traffic = old.traffic }) within
    (same ∙ ap (λ s. s.watch.listener.view) c.in-Some.ensures.value) (ap (λ s. s.traffic) c.in-Some.ensures.value))

pub returns-in-None-clause-alike : goal.returns-in-None-clause-alike
returns-in-None-clause-alike c = alike_same c.args.self.now.seats.items
