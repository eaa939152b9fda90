use Rattle.std.proofs.Common.{◌++◌}
use Rattle.std.proofs.lemmas.Result.{err_from_is_err_and}
use Rattle.swimtab.proofs.FileByFile.{wrong_at, claims_push}
use Rattle.swimtab.proofs.dumps.joined.Goals as goal

pub returns-in_err-table-clause-refuses : goal.returns-in_err-table-clause-refuses
returns-in_err-table-clause-refuses c =
    let p = err_from_is_err_and c.from_residual-in_err-table.result c.from_residual-in_err-table.ensures.1 in
    let before = c.loop-place.invariant in
    rw (p.1, p.2)
    (wrong_at (λ file. file.items) c.args.files.now c.loop-place.place c.index-files-place.result c.deref.result.now before.0 _
    c.loop-place-test.true c.index-files-place.is c.deref.ensures.value c.in_ok-check_lengths.ensures.short before.2
    c.in_err-table.ensures.place c.in_err-table.ensures.refuses)

pub loop-place-preserved : goal.loop-place-preserved
loop-place-preserved c =
    let before = c.loop-place.invariant in
    let own = c.in_ok-table.ensures.reads in (
      before.0 ++ own.0,
      own.2 before.0 before.1,
      claims_push (λ file. file.items) c.args.files.now c.loop-place.place c.index-files-place.result c.deref.result.now
          before.0 own.0 c.loop-place-test.true c.index-files-place.is c.deref.ensures.value before.2 own.1,
    )
