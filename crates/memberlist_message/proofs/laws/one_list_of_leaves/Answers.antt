use Rattle.memberlist_message.proofs.Unique.{one_answer}
use Rattle.memberlist_message.proofs.laws.one_list_of_leaves.Goals as goal

pub returns : goal.returns
returns c = λ messages leaves others n m here there. one_answer messages leaves others n m here there
