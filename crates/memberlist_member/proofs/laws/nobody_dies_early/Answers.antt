use Rattle.memberlist_member.proofs.Histories.{no_early_death}
use Rattle.memberlist_member.proofs.laws.nobody_dies_early.Goals as goal

pub returns : goal.returns
returns c name first last life well soon = no_early_death name first last life well soon
