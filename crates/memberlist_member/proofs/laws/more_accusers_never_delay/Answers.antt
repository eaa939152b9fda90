use Rattle.memberlist_member.proofs.Suspecting.{ends_sooner}
use Rattle.memberlist_member.proofs.laws.more_accusers_never_delay.Goals as goal

pub returns : goal.returns
returns c = ends_sooner
