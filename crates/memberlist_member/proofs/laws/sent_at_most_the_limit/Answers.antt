use Rattle.memberlist_member.proofs.Running.{at_most_the_limit}
use Rattle.memberlist_member.proofs.laws.sent_at_most_the_limit.Goals as goal

pub returns : goal.returns
returns c = at_most_the_limit
