use Rattle.std.proofs.Common.{◌≡◌, sym, rules}
use Rattle.std.proofs.Math.Path.{subst}
use Rattle.capture.specs.Pcap.{RecordText}
use Rattle.swimwatch.specs.Seated.{AreAlike, EachHas, put}
use Rattle.swimwatch.specs.Viewed.{choice_in, first_view}
use Rattle.swimwatch.proofs.Flowing.{on_ok}
use Rattle.swimwatch.proofs.Seats.{alike_same, each_alike}
use Rattle.swimwatch.proofs.listening.views.Views.record.Goals as goal
use Rattle.swimwatch.proofs.listening.views.Views.record.Goals.{in-Some+in_ok-tell_queries, in_default}

pub returns-clause-hears : goal.returns-clause-hears
returns-clause-hears c heard each =
    let s = choice_in c.args.self.now.seats.setting in
    let first = first_view c.args.self.now.seats.setting in
    let old = c.args.self.now.seats.seats.items in
    let mid = c.match-record.self.seats in
    let r : RecordText = (c.args.record, c.args.bytes.now) in
    let told : AreAlike old mid.seats.items = elim c.match-record.branch [
      | in-Some+in_ok-tell_queries w ↦ subst (λ x. AreAlike old x.seats.seats.items) (sym w.self-is) w.in_ok-tell_queries.ensures.alike
      | in_default w ↦ subst (λ x. AreAlike old x.seats.seats.items) (sym w.self-is) (alike_same old)
    ] in
    let setting : c.args.self.now.seats.setting ≡ mid.setting = elim c.match-record.branch [
      | in-Some+in_ok-tell_queries w ↦ search rules
      | in_default w ↦ search rules
    ] in
    let before = subst (λ x. EachHas (choice_in x) (first_view x) heard mid.seats.items) setting (each_alike s first heard old mid.seats.items told each) in
    let view = c.in_ok-view.view in
    let hears : EachHas s first (put heard view r) c.hear.new.self.seats.items =
    subst (λ x. EachHas (choice_in x) (first_view x) (put heard view r) c.hear.new.self.seats.items) (sym setting)
    (c.in_ok-view.ensures.hears heard before) in
    on_ok c.print.result
    (λ h. (view, each_alike s first (put heard view r) c.hear.new.self.seats.items c.print.new.self.seats.items h hears))
    c.print.ensures.alike
