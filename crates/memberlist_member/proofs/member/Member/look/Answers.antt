use Rattle.std.proofs.Common.{◌≤◌, length, rules, subst, sym, ◌∙◌}
use Rattle.std.specs.List.{All}
use Rattle.memberlist_member.specs.Covers.{OpensStreamOf}
use Rattle.memberlist_member.specs.Showing.{IsInTable, IsToldOver}
use Rattle.memberlist_member.specs.declared.cover.Opened.TheVariants.{Message}
use Rattle.memberlist_member.proofs.Lines.{over_line, that_line}
use Rattle.memberlist_member.proofs.Showing.{untold}
use Rattle.memberlist_member.proofs.member.Member.look.Goals as goal

pub returns-in-Some-eq6-clause-goes : goal.returns-in-Some-eq6-clause-goes
returns-in-Some-eq6-clause-goes g c =
    let m = c.args.self.now in
    let connection = c.index-connection.result.now in
    let (within, number) = that_line m.connections.list.items c.args.conn c.in-Some.index connection
    (sym c.index_of.ensures.first ∙ c.in-Some.is) c.index-connection.ensures in
    let some : 1 ≤ length connection.came.items = search rules in
    let opens : OpensStreamOf m.cover c.ne-is_reply.result connection.came.items (Message c.in-Message.message) = search rules in
    let (told, each, goes) = c.take_table.ensures.goes in (
      told,
      over_line m c.args.conn connection c.ne-is_reply.result c.in-Message.message within number some opens told
          (subst (λ b. All (IsInTable b m) told) c.deref-in-Some-eq6.ensures.value each),
      goes,
    )

pub returns-in-Some-first-clause-goes : goal.returns-in-Some-first-clause-goes
returns-in-Some-first-clause-goes g c =
    untold (IsToldOver c.args.conn c.args.self.now) c.args.self.now c.take_stream_message.new.self c.take_stream_message.ensures.goes
