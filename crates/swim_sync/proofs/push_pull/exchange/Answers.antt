use Rattle.std.proofs.Common.{Result, Ok, Err, OnOk}
use Rattle.swim_sync.proofs.Exchanging.{both_take}
use Rattle.swim_sync.proofs.push_pull.exchange.Goals as goal

then_ok : {A E P Q : Type 0} (r : Result A E) → OnOk r P → (P → Q) → OnOk r Q
then_ok (Ok a) p f = f p
then_ok (Err e) p f = tt

pub returns-clause-all : goal.returns-clause-all
returns-clause-all c = then_ok c.exchange_few.result c.exchange_few.ensures.joins (λ same. both_take _ _ _ _ same)
