use Rattle.swim_table.proofs.MemberlistStreams.{memberlist_dump_is_stream}
use Rattle.swim_table.proofs.memberlist_dump.encode_memberlist_into.Goals as goal

pub returns-clause-text : goal.returns-clause-text
returns-clause-text c = memberlist_dump_is_stream c.args.table.now c.args.join c.args.user.now
    c.entries-entry-items.ensures.legal c.requires.few c.requires.short
