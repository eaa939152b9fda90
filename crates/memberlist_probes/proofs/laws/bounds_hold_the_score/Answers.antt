use Rattle.memberlist_probes.proofs.Scoring.{monotone}
use Rattle.memberlist_probes.proofs.laws.bounds_hold_the_score.Goals as goal

pub returns : goal.returns
returns c = λ changes least score greatest below above. (monotone changes least score below, monotone changes score greatest above)
