use Rattle.memberlist_member.proofs.Suspecting.{shortens}
use Rattle.memberlist_member.proofs.laws.more_accusers_never_lengthen.Goals as goal

pub returns : goal.returns
returns c = shortens
