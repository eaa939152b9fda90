use Rattle.memberlist_member.proofs.Suspecting.{longest}
use Rattle.memberlist_member.proofs.laws.alone_it_lasts_longest.Goals as goal

pub returns : goal.returns
returns c = longest
