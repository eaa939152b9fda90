use Rattle.swim_table.proofs.Dumps.{dump_is_stream, dump_claims}
use Rattle.swim_table.proofs.laws.canonical_dump.Goals as goal

pub returns-clause-stream : goal.returns-clause-stream
returns-clause-stream c = dump_is_stream

pub returns-clause-no_other : goal.returns-clause-no_other
returns-clause-no_other c = dump_claims
