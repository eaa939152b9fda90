use Rattle.memberlist_member.proofs.member.Member.next_in_round.Goals as goal

-- Only the place in the round changes.
pub loop-preserved : goal.loop-preserved
loop-preserved c = record {
  adds = c.loop.invariant.adds;
  stays = c.loop.invariant.stays;
  goes = c.loop.invariant.goes;
  lines = c.loop.invariant.lines;
}
