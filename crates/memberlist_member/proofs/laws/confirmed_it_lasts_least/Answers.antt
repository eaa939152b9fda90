use Rattle.memberlist_member.proofs.Suspecting.{shortest}
use Rattle.memberlist_member.proofs.laws.confirmed_it_lasts_least.Goals as goal

pub returns : goal.returns
returns c = shortest
