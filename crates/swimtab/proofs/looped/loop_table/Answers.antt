use Rattle.std.proofs.Common.{◌∙◌, ap, length, Err, arith}
use Rattle.std.proofs.lemmas.Result.{err_from_is_err_and}
use Rattle.swim_program.specs.declared.report.Report.{Report}
use Rattle.swimtab.specs.Looping.IsLoopRefused.{too_large, memory}
use Rattle.swimtab.proofs.FewRecords.{stream_few}
use Rattle.swimtab.proofs.Looping.{refused_reading}
use Rattle.swimtab.proofs.looped.loop_table.Goals.{in-Ok-2, in-Err-Memory}
use Rattle.swimtab.proofs.looped.loop_table.Goals as goal

pub unreachable-requires : goal.unreachable-requires
unreachable-requires c =
    let read = c.in_ok-table.ensures.reads in
    let many = c.encode.ensures.too_many.0 (c.in-Err-TooManyRecords.is ∙ ap Err c.in-Err-TooManyRecords.field-0-is) in
    stream_few c.args.dump.now read.0 c.in_ok-table.table read.1 read.2 many

pub returns-in_err-table-clause-refuses : goal.returns-in_err-table-clause-refuses
returns-in_err-table-clause-refuses c =
    let p = err_from_is_err_and c.from_residual-in_err-table.result c.from_residual-in_err-table.ensures.1 in
    rw (p.1, p.2) (refused_reading c.args.dump.now _ c.in_ok-check_length.ensures.short c.in_err-table.ensures.refuses)

pub returns-clause-refuses : goal.returns-clause-refuses
returns-clause-refuses c =
    let short = c.in_ok-check_length.ensures.short in
    let read = c.in_ok-table.ensures.reads in
    let what = ap (λ (r : Report). r.what) c.at.ensures in
    elim c.match-encode.branch [
      | in-Ok-2 w ↦
          too_large read.0 c.in_ok-table.table short read.1 read.2
          (omega (arith, w.if-len-le-MAX_DUMP_LEN.false, w.len.ensures, ap length w.in-Ok.ensures.canonical))
          (what ∙ w.what-is ∙ w.too_large_for_loop-what.ensures)
      | in-Err-Memory w ↦ memory short (what ∙ w.what-is)
    ]
