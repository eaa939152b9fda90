use Rattle.std.proofs.Common.{◌≡◌, ◌∙◌, Some, refl, rules, subst}
use Rattle.std.specs.Option.{MatchOption}
use Rattle.swim_table.specs.Table.{get}
use Rattle.swim_c.specs.Updating.{IsBack, IsItsAlive, ReadmitDone}
use Rattle.swim_c.proofs.readmitting.readmit.Goals as goal

pub returns-in-Ok-None-clause-readmits : goal.returns-in-Ok-None-clause-readmits
returns-in-Ok-None-clause-readmits c =
    let is : get c.args.held.now.node.table c.args.name.now ≡ Some c.in-Some.entry.now = search rules in
    let none : ¬ IsBack c.in-Some.entry.now =
    subst (λ a. MatchOption a (¬ IsBack c.in-Some.entry.now)
    (IsItsAlive c.in-Some.entry.now)) c.in-Ok-None.field-0-is c.in-Ok-None.ensures.alive in
    ReadmitDone.not_back c.in-Some.entry.now refl is none refl

pub returns-in-Err-clause-readmits : goal.returns-in-Err-clause-readmits
returns-in-Err-clause-readmits c =
    let is : get c.args.held.now.node.table c.args.name.now ≡ Some c.in-Some.entry.now = search rules in
    ReadmitDone.memory c.in-Some.entry.now refl is c.in-Err.ensures.asks refl

pub returns-in_default-prepared-clause-readmits : goal.returns-in_default-prepared-clause-readmits
returns-in_default-prepared-clause-readmits c =
    let is : get c.args.held.now.node.table c.args.name.now ≡ Some c.in-Some.entry.now = search rules in
    let back : IsItsAlive c.in-Some.entry.now c.in-Ok-Some.alive = search rules in
    ReadmitDone.memory c.in-Some.entry.now refl is (back.0, back.1, back.2) refl

pub returns-clause-readmits : goal.returns-clause-readmits
returns-clause-readmits c =
    let is : get c.args.held.now.node.table c.args.name.now ≡ Some c.in-Some.entry.now = search rules in
    let back : IsItsAlive c.in-Some.entry.now c.in-Ok-Some.alive = search rules in
    let first = c.forget.ensures in
    let then = c.join_in.ensures in
    ReadmitDone.readmitted c.in-Some.entry.now c.in-Ok-Some.alive refl is back (record {
      kept = then.all _ _ first.kept c.in-Ok.ensures.alive;
      all = λ claims of. then.all _ _ (first.all claims of) c.in-Ok.ensures.alive;
      member = record { name = then.member.name ∙ first.member.name; details = then.member.details ∙ first.member.details };
    })
