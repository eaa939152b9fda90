use Rattle.std.proofs.Common.{ap, ◌∙◌}
use Rattle.swimtab.proofs.FileByFile.{refused_for}
use Rattle.swimtab.proofs.dumps.with_file.Goals as goal

pub returns-in-Err-clause-refuses : goal.returns-in-Err-clause-refuses
returns-in-Err-clause-refuses c =
    let what = ap (λ r. r.what) c.at.ensures ∙ c.from.ensures in
    refused_for c.args.file.now c.in-Err.fault c.at.result.what what c.in-Err.ensures.refuses c.in-Err.ensures.reason
