use Rattle.std.proofs.Common.{rules}
use Rattle.capture.proofs.open.Open.take.Goals as goal
use Rattle.capture.proofs.open.Open.take.Goals.{then-segment+then-is_none, else-segment}

pub returns-then-resets-clause-counts : goal.returns-then-resets-clause-counts
returns-then-resets-clause-counts c = rw (← c.self.view_is) (λ kept segments says.
    elim c.if-segment.branch [
      | then-segment+then-is_none w ↦ rw w.self-inside-is (c.in_ok-taken.ensures.counts kept segments says)
      | else-segment w ↦ rw w.self-inside-is (c.in_ok-taken.ensures.counts kept segments says)
    ])

pub returns-else-resets-clause-counts : goal.returns-else-resets-clause-counts
returns-else-resets-clause-counts c = rw (← c.self.view_is) (λ kept segments says.
    elim c.if-segment.branch [
      | then-segment+then-is_none w ↦ rw w.self-inside-is (c.in_ok-taken.ensures.counts kept segments says)
      | else-segment w ↦ rw w.self-inside-is (c.in_ok-taken.ensures.counts kept segments says)
    ])

pub returns-then-resets-clause-left_out : goal.returns-then-resets-clause-left_out
returns-then-resets-clause-left_out c = search rules

pub returns-then-resets-clause-starts : goal.returns-then-resets-clause-starts
returns-then-resets-clause-starts c = search rules

pub returns-then-resets-clause-ends : goal.returns-then-resets-clause-ends
returns-then-resets-clause-ends c = search rules

pub returns-then-resets-clause-resets : goal.returns-then-resets-clause-resets
returns-then-resets-clause-resets c = search rules

pub returns-then-resets-clause-beyond : goal.returns-then-resets-clause-beyond
returns-then-resets-clause-beyond c = search rules

pub returns-then-resets-clause-near : goal.returns-then-resets-clause-near
returns-then-resets-clause-near c = search rules

pub returns-then-resets-clause-crowded : goal.returns-then-resets-clause-crowded
returns-then-resets-clause-crowded c = search rules

pub returns-then-resets-clause-takes : goal.returns-then-resets-clause-takes
returns-then-resets-clause-takes c = record {
  said = returns-then-resets-clause-counts c;
  left_out = returns-then-resets-clause-left_out c;
  starts = returns-then-resets-clause-starts c;
  ends = returns-then-resets-clause-ends c;
  resets = returns-then-resets-clause-resets c;
  beyond = λ is. returns-then-resets-clause-beyond c (cc (is));
  near = λ far. let is = returns-then-resets-clause-near c far in cc (is);
  crowded = λ is. returns-then-resets-clause-crowded c (cc (is));
}

pub returns-else-resets-clause-left_out : goal.returns-else-resets-clause-left_out
returns-else-resets-clause-left_out c = search rules

pub returns-else-resets-clause-starts : goal.returns-else-resets-clause-starts
returns-else-resets-clause-starts c = search rules

pub returns-else-resets-clause-ends : goal.returns-else-resets-clause-ends
returns-else-resets-clause-ends c = search rules

pub returns-else-resets-clause-resets : goal.returns-else-resets-clause-resets
returns-else-resets-clause-resets c = search rules

pub returns-else-resets-clause-beyond : goal.returns-else-resets-clause-beyond
returns-else-resets-clause-beyond c = search rules

pub returns-else-resets-clause-near : goal.returns-else-resets-clause-near
returns-else-resets-clause-near c = search rules

pub returns-else-resets-clause-crowded : goal.returns-else-resets-clause-crowded
returns-else-resets-clause-crowded c = search rules

pub returns-else-resets-clause-takes : goal.returns-else-resets-clause-takes
returns-else-resets-clause-takes c = record {
  said = returns-else-resets-clause-counts c;
  left_out = returns-else-resets-clause-left_out c;
  starts = returns-else-resets-clause-starts c;
  ends = returns-else-resets-clause-ends c;
  resets = returns-else-resets-clause-resets c;
  beyond = λ is. returns-else-resets-clause-beyond c (cc (is));
  near = λ far. let is = returns-else-resets-clause-near c far in cc (is);
  crowded = λ is. returns-else-resets-clause-crowded c (cc (is));
}
