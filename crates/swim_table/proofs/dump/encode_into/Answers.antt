use Rattle.swim_table.proofs.Dumps.{dump_is_stream}
use Rattle.swim_table.proofs.dump.encode_into.Goals as goal

pub returns-clause-text : goal.returns-clause-text
returns-clause-text c = dump_is_stream c.args.table.now c.args.join c.entries-entry-items.ensures.legal c.requires.few
