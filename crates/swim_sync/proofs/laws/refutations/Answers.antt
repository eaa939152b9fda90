use Rattle.swim_sync.proofs.Refutations.{refutation-due, refutation-none, refutation-said}
use Rattle.swim_sync.proofs.laws.refutations.Goals as goal

pub returns-clause-due : goal.returns-clause-due
returns-clause-due c = λ member claims. refutation-due claims member

pub returns-clause-none : goal.returns-clause-none
returns-clause-none c = λ member claims. refutation-none claims member

pub returns-clause-said : goal.returns-clause-said
returns-clause-said c = λ member claims. refutation-said claims member
