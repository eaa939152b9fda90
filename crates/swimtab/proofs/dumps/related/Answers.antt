use Rattle.std.proofs.lemmas.Result.{err_from_is_err_and}
use Rattle.swimtab.proofs.FileByFile.{both_short, first_long, second_long, first_wrong, second_wrong}
use Rattle.swimtab.proofs.dumps.related.Goals as goal

pub returns-in_err-check_length-clause-refuses : goal.returns-in_err-check_length-clause-refuses
returns-in_err-check_length-clause-refuses c =
    let p = err_from_is_err_and c.from_residual.result c.from_residual.ensures.1 in
    rw (p.1, p.2) (first_long _ c.args.second.now _ c.in_err-check_length.ensures.long.0 c.in_err-check_length.ensures.long.1)

pub returns-in_err-check_length-2-clause-refuses : goal.returns-in_err-check_length-2-clause-refuses
returns-in_err-check_length-2-clause-refuses c =
    let p = err_from_is_err_and c.from_residual-in_err-check_length-2.result c.from_residual-in_err-check_length-2.ensures.1 in
    rw (p.1, p.2)
    (second_long c.args.first.now _ _ c.in_ok-check_length.ensures.short
    c.in_err-check_length-2.ensures.long.0 c.in_err-check_length-2.ensures.long.1)

pub returns-in_err-table-clause-refuses : goal.returns-in_err-table-clause-refuses
returns-in_err-table-clause-refuses c =
    let p = err_from_is_err_and c.from_residual-in_err-table.result c.from_residual-in_err-table.ensures.1 in
    let short = both_short c.args.first.now c.args.second.now c.in_ok-check_length.ensures.short c.in_ok-check_length-2.ensures.short in
    rw (p.1, p.2) (first_wrong c.args.first.now c.args.second.now _ short c.in_err-table.ensures.place c.in_err-table.ensures.refuses)

pub returns-in_err-other-clause-refuses : goal.returns-in_err-other-clause-refuses
returns-in_err-other-clause-refuses c =
    let p = err_from_is_err_and c.from_residual-in_err-other.result c.from_residual-in_err-other.ensures.1 in
    let short = both_short c.args.first.now c.args.second.now c.in_ok-check_length.ensures.short c.in_ok-check_length-2.ensures.short in
    rw (p.1, p.2)
    (second_wrong c.args.first.now c.args.second.now _ _ short c.in_ok-table.ensures.reads.1
    c.in_err-other.ensures.place c.in_err-other.ensures.refuses)

pub returns-clause-relates : goal.returns-clause-relates
returns-clause-relates c =
    let short = both_short c.args.first.now c.args.second.now c.in_ok-check_length.ensures.short c.in_ok-check_length-2.ensures.short in
    let own = c.in_ok-table.ensures.reads in
    let others = c.in_ok-other.ensures.reads in
    (own.0, others.0, c.in_ok-table.table, c.in_ok-other.other, short, own.1, others.1, own.2, others.2, c.relation.ensures)
