use Rattle.std.proofs.Common.{◌≡◌, inr, refl, sym, ap, subst, ◌∙◌}
use Rattle.capture.specs.Pcap.{RecordText}
use Rattle.swimwatch.specs.Seated.{EachHas, put}
use Rattle.swimwatch.specs.Viewed.{choice_in, first_view}
use Rattle.swimwatch.proofs.Yielding.{at_place}
use Rattle.swimwatch.proofs.input.captures.hear_next.Goals as goal
use Rattle.swimwatch.proofs.input.captures.hear_next.Goals.{then-is_done, else-is_done}

pub returns-then-is_late-clause-stops : goal.returns-then-is_late-clause-stops
returns-then-is_late-clause-stops c =
    let r : RecordText = (c.in-Some-record.record, c.in-Some-record.bytes.now) in
    let first = c.in-Some.ensures.first in
    let found = c.in-Some-record.ensures.next in
    inr (c.in-Some.place, r, at_place c.args.sources.now first.0 c.in-Some.place found.0 r first.2 first.1 found.1, c.if-is_late.ensures.0 refl)

pub returns-clause-hears : goal.returns-clause-hears
returns-clause-hears c heard each =
    let r : RecordText = (c.in-Some-record.record, c.in-Some-record.bytes.now) in
    let old = c.args.views.now.seats in
    let mid = c.record-2.new.self.seats in
    let new = c.if-is_done.views.seats in
    let first = c.in-Some.ensures.first in
    let found = c.in-Some-record.ensures.next in
    let next = at_place c.args.sources.now first.0 c.in-Some.place found.0 r first.2 first.1 found.1 in
    let hears = c.in_ok-record.ensures.hears heard each in
    let flushed : c.flush_some.new.views.seats ≡ mid = c.in_ok-flush_some.ensures in
    let items : mid.seats.items ≡ new.seats.items = elim c.if-is_done.branch [
      | then-is_done w ↦ sym (ap (λ v. v.seats.seats.items) w.views-is ∙ ap (λ s. s.items) w.end.ensures.seats ∙ ap (λ s. s.seats.items) flushed)
      | else-is_done w ↦ sym (ap (λ v. v.seats.seats.items) w.views-is ∙ ap (λ s. s.seats.items) flushed)
    ] in
    let setting : old.setting ≡ new.setting = elim c.if-is_done.branch [
      | then-is_done w ↦ sym (ap (λ v. v.seats.setting) w.views-is ∙ w.end.ensures.setting ∙ ap (λ s. s.setting) flushed ∙ c.in_ok-record.ensures.setting)
      | else-is_done w ↦ sym (ap (λ v. v.seats.setting) w.views-is ∙ ap (λ s. s.setting) flushed ∙ c.in_ok-record.ensures.setting)
    ] in
    let now = put heard hears.0 r in (
      c.in-Some.place,
      r,
      hears.0,
      next,
      (λ late. absurd (cc (c.if-is_late.ensures.1 late))),
      c.in_ok-read_on.ensures c.in-Some.place r next,
      subst (λ s. EachHas (choice_in s) (first_view s) now new.seats.items) setting
          (subst (λ l. EachHas (choice_in old.setting) (first_view old.setting) now l) items hears.1),
    )
