use Rattle.std.proofs.Common.{◌≡◌}
use Rattle.swimwatch.specs.Rosters.{members_of}
use Rattle.swimwatch.proofs.view.roster.Roster.of_records.Given as goal

abbrev pub invariant-loop-record : goal.invariant-loop-record
invariant-loop-record l = l.roster ≡ members_of l.yielded
