use Rattle.std.proofs.Common.{◌≡◌, map}
use Rattle.std.specs.Map.Iter.{deref_pair}
use Rattle.memberlist_view.specs.Told.{IsAscending}
use Rattle.swimwatch.specs.Rosters.{shown_members}
use Rattle.swimwatch.proofs.view.roster.Roster.of_listener.Given as goal

abbrev pub invariant-loop-name : goal.invariant-loop-name
invariant-loop-name l =
    IsAscending l.listener.view.entries → l.roster ≡ shown_members l.intents (map deref_pair l.yielded)
