use Rattle.std.proofs.Common.{inr}
use Rattle.memberlist_cipher.proofs.Labels.{one_label}
use Rattle.memberlist_cipher.proofs.laws.one_label.Goals as goal

pub returns-clause-one : goal.returns-clause-one
returns-clause-one c = one_label

pub returns-clause-written : goal.returns-clause-written
returns-clause-written c bytes label rest other behind text = one_label bytes label rest other behind (inr text)
