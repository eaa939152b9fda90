use Rattle.swimtab.proofs.FileByFile.{read_alone}
use Rattle.swimtab.proofs.dumps.table_of_file.Goals as goal

pub returns-clause-reads : goal.returns-clause-reads
returns-clause-reads c = read_alone c.with_file.result c.args.file.now (rw c.new.ensures at c.with_file.ensures.reads)
