use Rattle.memberlist_member.proofs.Suspecting.{between}
use Rattle.memberlist_member.proofs.laws.a_suspicion_lasts_between.Goals as goal

pub returns : goal.returns
returns c = between
