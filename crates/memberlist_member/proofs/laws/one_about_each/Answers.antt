use Rattle.memberlist_member.proofs.Apart.{apart_put}
use Rattle.memberlist_member.proofs.laws.one_about_each.Goals as goal

pub returns : goal.returns
returns c = apart_put
