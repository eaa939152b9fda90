use Rattle.memberlist_member.proofs.Histories.{free_on}
use Rattle.memberlist_member.proofs.laws.nobody_is_accused_without_cause.Goals as goal

pub returns : goal.returns
returns c name first last life clear = free_on name life clear
