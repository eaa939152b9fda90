use Rattle.swim_table.proofs.MemberlistStreams.{memberlist_dump_is_stream, memberlist_dump_claims}
use Rattle.swim_table.proofs.memberlist_law.memberlist_dump.Goals as goal

pub returns-clause-stream : goal.returns-clause-stream
returns-clause-stream c = memberlist_dump_is_stream

pub returns-clause-no_other : goal.returns-clause-no_other
returns-clause-no_other c = memberlist_dump_claims
