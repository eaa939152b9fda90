use Rattle.std.proofs.Common.{arith}
use Rattle.memberlist_probes.proofs.Scoring.{meet}
use Rattle.memberlist_probes.proofs.laws.answers_close_the_bounds.Goals as goal

pub returns : goal.returns
returns c = λ changes least greatest within range enough. meet changes least greatest within (omega (arith, range, enough))
