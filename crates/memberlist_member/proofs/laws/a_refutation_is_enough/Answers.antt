use Rattle.memberlist_member.proofs.Refuting.{refuted}
use Rattle.memberlist_member.proofs.laws.a_refutation_is_enough.Goals as goal

pub returns : goal.returns
returns c wait time inc entry name details joins from less sound = refuted wait inc time entry name details joins from less sound
