use Rattle.std.proofs.Common.{Result, Ok, Err, OnOk, IfErr, sym, subst}
use Rattle.std.proofs.lemmas.Result.{err_from_is_err_and}
use Rattle.swim_c.specs.declared.progress.Progress.{Progress}
use Rattle.swim_c.specs.Progressing.{IsProgressIn}
use Rattle.swim_c.proofs.progress.Progress.read_all.Goals as goal

then_ok : {A E P Q : Type 0} (r : Result A E) → OnOk r P → (P → Q) → OnOk r Q
then_ok (Ok a) p f = f p
then_ok (Err e) p f = tt

then_err : {A E : Type 0} {P Q : E → Type 0} (r : Result A E) → IfErr r P → ((e : E) → P e → Q e) → IfErr r Q
then_err (Ok a) p f = tt
then_err (Err e) p f = f e p

pub loop-self-init : goal.loop-self-init
loop-self-init c = record { header = c.in_ok-begin.ensures.read; progress = c.in_ok-begin.ensures.progress }

pub loop-self-preserved : goal.loop-self-preserved
loop-self-preserved c = record {
  header = c.read_record.ensures.header;
  progress = λ at. c.in_ok-read_record.ensures.progress (c.loop-self.invariant.progress at);
}

pub returns-in_err-read_record-clause-progress : goal.returns-in_err-read_record-clause-progress
returns-in_err-read_record-clause-progress c = λ at.
    subst (λ (p : Progress). IsProgressIn c.args.bytes.now p) (sym c.in_err-read_record.ensures.unchanged)
    (c.loop-self.invariant.progress at)

pub returns-in_err-read_record-clause-lacks : goal.returns-in_err-read_record-clause-lacks
returns-in_err-read_record-clause-lacks c =
    let p = err_from_is_err_and c.from_residual-in_err-read_record.result c.from_residual-in_err-read_record.ensures.1 in
    rw (p.1, p.2) (λ at. c.in_err-read_record.ensures.lacks (c.loop-self.invariant.progress at))

pub returns-clause-whole : goal.returns-clause-whole
returns-clause-whole c =
    then_ok c.check_user_state.result c.check_user_state.ensures.whole (λ whole at. whole (c.loop-self.invariant.progress at))

pub returns-clause-lacks : goal.returns-clause-lacks
returns-clause-lacks c =
    then_err c.check_user_state.result c.check_user_state.ensures.lacks (λ e lacks at no_memory. lacks (c.loop-self.invariant.progress at))

pub returns-in_err-begin-clause-progress : goal.returns-in_err-begin-clause-progress
returns-in_err-begin-clause-progress c = λ at. subst
    (λ (p : Progress). IsProgressIn c.args.bytes.now p) (sym c.in_err-begin.ensures.unchanged) at
