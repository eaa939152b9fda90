use Rattle.std.proofs.Common.{◌≡◌, ◌∙◌, Option, Result, OnErr, OnOk, ap, arith, refl, rules, subst}
use Rattle.std.specs.declared.alloc.AllocError.{AllocError}
use Rattle.memberlist_view.specs.Member.{member_view_after}
use Rattle.memberlist_view.specs.Told.{ViewValue}
use Rattle.memberlist_view.specs.declared.event.Event.{Event}
use Rattle.memberlist_view.specs.declared.heard.Said.{Said}
use Rattle.memberlist_member.specs.declared.member.Member.{Member}
use Rattle.memberlist_member.proofs.Remembering.{after_hearing}
use Rattle.memberlist_member.proofs.Showing.{after_hearing as after_hearing_this, after_telling, arrives_as}
use Rattle.memberlist_member.proofs.Watching.{watched_after}
use Rattle.memberlist_member.proofs.Heeding.{on_ok}
use Rattle.memberlist_member.proofs.Carrying.{stays_over}
use Rattle.memberlist_member.proofs.member.Member.take_in.Goals as goal

-- the view after it was heard, or as before
record IsAfter (m : Member) (new : ViewValue) (said : Said) (result : Result (Option Event) AllocError) : Type 0 where
  step : OnOk result (new ≡ member_view_after m.view (record { time = m.time; said = said }))
  same : OnErr result (new ≡ m.view)

pub invariant_of-self : goal.invariant_of-self
invariant_of-self c =
    let m = c.get_ready.new.self in
    let time = c.get_ready.ensures.stays.0.0.0.0 in
    record {
      limited = m.limited;
      begun = m.begun;
      viewed = after_hearing m.view c.hear_as_member-event.new.self c.args.heard.now m.time c.hear_as_member-event.result
          (omega (arith, c.requires.now, time)) c.hear_as_member-event.ensures.view c.hear_as_member-event.ensures.err m.viewed;
      watched = watched_after m.view c.hear_as_member-event.new.self c.args.heard.now m.suspicions.list.items c.hear_as_member-event.result
          c.in_ok-get_ready.ensures.ready c.hear_as_member-event.ensures.step c.hear_as_member-event.ensures.err m.watched;
    }

stepped : (c : goal.After-settle) → IsAfter c.args.self.now c.settle.new.self.view c.args.heard.now.said c.hear_as_member-event.result
stepped c =
    let m = c.args.self.now in
    let new = c.settle.new.self.view in
    let result = c.hear_as_member-event.result in
    let step : OnOk result (new ≡ member_view_after m.view c.args.heard.now) = search rules in
    let same : OnErr result (new ≡ m.view) = search rules in
    record {
      step = subst (λ t. OnOk result (new ≡ member_view_after m.view (record { time = t; said = c.args.heard.now.said }))) c.requires.now step;
      same = same;
    }

pub returns-clause-goes : goal.returns-clause-goes
returns-clause-goes c told ground first word before =
    let m = c.args.self.now in
    let new = c.settle.new.self in
    let said = c.args.heard.now.said in
    let result = c.hear_as_member-event.result in
    let time : new.time ≡ m.time = search rules in
    let settings : new.settings ≡ m.settings = search rules in
    let own : new.own ≡ m.own = search rules in
    arrives_as told first word m new time settings own
    (after_hearing_this told m new.view said said result first word ground refl (stepped c).step (stepped c).same before)

pub returns-clause-tells : goal.returns-clause-tells
returns-clause-tells c told packet word says first own_word before =
    let m = c.args.self.now in
    let new = c.settle.new.self in
    let said = c.args.heard.now.said in
    let result = c.hear_as_member-event.result in
    let time : new.time ≡ m.time = search rules in
    let settings : new.settings ≡ m.settings = search rules in
    let own : new.own ≡ m.own = search rules in
    arrives_as told first own_word m new time settings own
    (after_telling told m new.view said packet result first own_word word says (stepped c).step (stepped c).same before)

pub returns-clause-lines : goal.returns-clause-lines
returns-clause-lines c conn came line = c.get_ready.ensures.lines conn came (c.settle.ensures.lines conn came line)

pub returns-clause-stays : goal.returns-clause-stays
returns-clause-stays c = stays_over c.args.self.now c.get_ready.new.self c.settle.new.self c.get_ready.ensures.stays c.settle.ensures.stays

pub returns-clause-own : goal.returns-clause-own
returns-clause-own c = c.settle.ensures.own ∙ c.get_ready.ensures.own

pub returns-clause-grows : goal.returns-clause-grows
returns-clause-grows c = omega (arith, c.get_ready.ensures.grows, c.settle.ensures.grows)

pub returns-clause-step : goal.returns-clause-step
returns-clause-step c =
    on_ok c.hear_as_member-event.result (λ step. c.settle.ensures.view ∙ step ∙ ap (λ v. member_view_after v c.args.heard.now) c.get_ready.ensures.view)
    c.hear_as_member-event.ensures.step
