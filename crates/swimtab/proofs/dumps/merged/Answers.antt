use Rattle.std.proofs.Common.{inl}
use Rattle.std.proofs.lemmas.Result.{err_from_is_err_and}
use Rattle.swimtab.proofs.dumps.merged.Goals as goal

pub returns-in_err-table-clause-refuses : goal.returns-in_err-table-clause-refuses
returns-in_err-table-clause-refuses c =
    let p = err_from_is_err_and c.from_residual.result c.from_residual.ensures.1 in
    rw p.1 (inl (rw p.2 c.in_err-table.ensures.refuses))
