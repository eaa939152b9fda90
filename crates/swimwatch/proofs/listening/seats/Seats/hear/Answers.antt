use Rattle.std.proofs.Common.{◌<◌, [], ◌∷◌, ◌++◌, length, slice_set, rules, sym}
use Rattle.std.proofs.Math.Path.{subst}
use Rattle.capture.specs.Pcap.{RecordText}
use Rattle.swimwatch.specs.Seated.{EachHas}
use Rattle.swimwatch.specs.Viewed.{HasHeard, choice_in, first_view}
use Rattle.swimwatch.proofs.Seats.{heard_by}
use Rattle.swimwatch.proofs.listening.seats.Seats.hear.Goals as goal

pub returns-clause-hears : goal.returns-clause-hears
returns-clause-hears c heard each =
    let s = choice_in c.args.self.now.setting in
    let first = first_view c.args.self.now.setting in
    let setting = c.in_ok-view.ensures.setting in
    let has = c.in_ok-view.ensures.has heard each in
    let items = c.view_of.new.self.seats.items in
    let view = c.in_ok-view.view in
    let r : RecordText = (c.args.record, c.args.bytes.now) in
    let old = c.in-Some.seat.now in
    let new = c.hear.new.self in
    let within : view < length items = search rules in
    subst (λ h. EachHas s first h (slice_set items view new)) (has.2 r)
    (heard_by s first has.0 items view old new r within has.1
    (λ records was. subst (λ x. HasHeard (choice_in x) first (records ++ r ∷ []) new) setting
    (c.in_ok-hear-in-Some.ensures first records
    (subst (λ x. HasHeard (choice_in x) first records old) (sym setting)
    (subst (HasHeard s first records) (sym c.in-Some.ensures.value) was)))))
