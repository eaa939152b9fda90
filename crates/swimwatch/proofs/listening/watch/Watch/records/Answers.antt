use Rattle.std.proofs.Common.{◌∙◌, ◌∷◌, [], List, ap, subst, sym}
use Rattle.std.proofs.lemmas.List.{map-append}
use Rattle.memberlist_view.specs.Told.{view_after}
use Rattle.swim_claim.specs.declared.claim.Claim.{Claim}
use Rattle.swim_wire.specs.declared.state_record.StateRecord.{StateRecord}
use Rattle.swimwatch.specs.Records.{claims_in}
use Rattle.swimwatch.specs.Told.{ToldText, heard_of}
use Rattle.swimwatch.specs.Views.{HearsRecords}
use Rattle.swimwatch.proofs.Hearing.{record_heard}
use Rattle.swimwatch.proofs.listening.watch.Watch.records.Goals as goal

pub loop-record-preserved-in_ok-hear : goal.loop-record-preserved-in_ok-hear
loop-record-preserved-in_ok-hear c =
    let time = c.args.sent.time in
    let past = c.loop-record.yielded in
    let last = c.in-Some.record in
    let old = c.said.new.self.listener.view in
    let now = c.loop-record.self.listener.view in
    let new = c.hear.new.self.listener.view in
    subst (λ (cs : List Claim). HearsRecords time cs old new) (sym (map-append (λ (r : StateRecord). r.claim) past (last ∷ [])))
    (record_heard time (claims_in past) last.claim c.has-joins.result old now new c.loop-record.invariant
    (c.in_ok-hear.ensures.view ∙ ap (λ (t : ToldText). view_after now (heard_of time t)) c.of_record-told.ensures))

pub loop-record-preserved : goal.loop-record-preserved
loop-record-preserved c =
    let time = c.args.sent.time in
    let past = c.loop-record.yielded in
    let last = c.in-Some.record in
    let old = c.said.new.self.listener.view in
    let now = c.loop-record.self.listener.view in
    let new = c.hear.new.self.listener.view in
    subst (λ (cs : List Claim). HearsRecords time cs old new) (sym (map-append (λ (r : StateRecord). r.claim) past (last ∷ [])))
    (record_heard time (claims_in past) last.claim c.has-joins.result old now new c.loop-record.invariant
    (c.in_ok-hear.ensures.view ∙ ap (λ (t : ToldText). view_after now (heard_of time t)) c.of_record-told.ensures))
