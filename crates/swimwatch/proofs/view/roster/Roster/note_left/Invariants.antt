use Rattle.std.proofs.Common.{◌≡◌, map}
use Rattle.swimwatch.specs.Rosters.{with_left}
use Rattle.swimwatch.proofs.view.roster.Roster.note_left.Given as goal

abbrev pub invariant-loop-bytes : goal.invariant-loop-bytes
invariant-loop-bytes l = l.self ≡ with_left (map (λ v. v.items) l.yielded) l.fn.self
