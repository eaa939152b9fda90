use Rattle.std.proofs.Common.{arith}
use Rattle.std.proofs.lemmas.Result.{err_from_is_err_and}
use Rattle.swimtab.specs.Files.{AreShortFiles}
use Rattle.swimtab.proofs.FileByFile.{long_at, short_push, all_files}
use Rattle.swimtab.proofs.dumps.check_lengths.Goals as goal

pub returns-in_err-check_length-clause-refuses : goal.returns-in_err-check_length-clause-refuses
returns-in_err-check_length-clause-refuses c =
    let p = err_from_is_err_and c.from_residual.result c.from_residual.ensures.1 in
    rw (p.1, p.2)
    (long_at (λ file. file.items) c.args.files.now c.loop-place.place c.index-files-place.result c.deref.result.now _
    c.loop-place-test.true c.index-files-place.is c.deref.ensures.value c.loop-place.invariant
    c.in_err-check_length.ensures.long.0 c.in_err-check_length.ensures.long.1)

pub loop-place-preserved : goal.loop-place-preserved
loop-place-preserved c =
    short_push (λ file. file.items) c.args.files.now c.loop-place.place c.index-files-place.result c.deref.result.now
    c.loop-place-test.true c.index-files-place.is c.deref.ensures.value c.loop-place.invariant c.in_ok-check_length.ensures.short

pub returns-clause-short : goal.returns-clause-short
returns-clause-short c =
    all_files (λ file. file.items) c.args.files.now c.loop-place.place AreShortFiles
    (omega (arith, c.loop-place-test.false)) c.loop-place.invariant
