use Rattle.std.proofs.Common.{◌≡◌, ◌∙◌, ap, refl, subst, rules}
use Rattle.memberlist_view.specs.declared.heard.Said.{Said}
use Rattle.swim_c.specs.Views.{HearDone, RecordTold, heard_in_record}
use Rattle.swim_c.specs.declared.view.hearing.Told.{Told}
use Rattle.swim_c.proofs.ViewCalls.{heard_then, read_none, read_some}
use Rattle.swim_c.proofs.view.hearing.take_record.Goals as goal

pub returns-in-Ok-None : goal.returns-in-Ok-None
returns-in-Ok-None c =
    let read = read_none c.in-Ok-None.field-0 _ _ c.in-Ok-None.field-0-is c.in-Ok-None.ensures.read in
    RecordTold.over read.0 read.1 (ap (λ (t : Told). t.status) c.refused.ensures)
    (record { view = refl; event_is = ap (λ (t : Told). t.event) c.refused.ensures; data_are = refl })

pub returns-in-Err : goal.returns-in-Err
returns-in-Err c =
    RecordTold.refused c.in-Err.fault c.in-Err.ensures.stops (ap (λ (t : Told). t.status) c.refused-in-Err.ensures ∙ c.number.ensures)
    (record { view = refl; event_is = ap (λ (t : Told). t.event) c.refused-in-Err.ensures; data_are = refl })

pub returns-else-told-ne-DONE : goal.returns-else-told-ne-DONE
returns-else-told-ne-DONE c =
    let read = read_some c.in-Ok-Some.field-0 c.in-Ok-Some.claim _ _ c.in-Ok-Some.field-0-is c.in-Ok-Some.ensures.read in
    let r = c.hear-told.result in
    let heard = heard_in_record c.args.time c.in-Ok-Some.claim in
    let zero : r.status ≡ 0 = search rules in
    let done : HearDone heard r.status r.event c.args.view.now c.hear-told.new.view c.args.member.now c.hear-told.new.member =
    subst (λ (s : Said). HearDone (record { time = c.args.time; said = s }) r.status r.event c.args.view.now c.hear-told.new.view
    c.args.member.now c.hear-told.new.member) c.of_record-said.ensures c.hear-told.ensures in
    RecordTold.told read.0 c.in-Ok-Some.claim read.1 read.2 zero
    (heard_then heard r.status r.event c.args.view.now c.hear-told.new.view c.args.member.now c.hear-told.new.member zero done)
