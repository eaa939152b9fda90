use Rattle.std.proofs.Common.{[], ◌∷◌}
use Rattle.swim_sync.specs.Heard.{refutation_of}
use Rattle.swim_sync.proofs.Runs.{hear_nowhere, exchange_nothing, half_nothing, length-heard}
use Rattle.swim_sync.proofs.laws.idle_events.Goals as goal

pub returns-clause-hear : goal.returns-clause-hear
returns-clause-hear c = λ members lists k claim past. hear_nowhere lists k (claim ∷ []) past

pub returns-clause-hear_all : goal.returns-clause-hear_all
returns-clause-hear_all c = λ members lists k claims past. hear_nowhere lists k claims past

pub returns-clause-exchange : goal.returns-clause-exchange
returns-clause-exchange c = exchange_nothing

pub returns-clause-half : goal.returns-clause-half
returns-clause-half c = half_nothing

pub returns-clause-refute : goal.returns-clause-refute
returns-clause-refute c = λ members lists k past. hear_nowhere lists k (refutation_of members lists k) past

pub returns-clause-nodes : goal.returns-clause-nodes
returns-clause-nodes c = length-heard
