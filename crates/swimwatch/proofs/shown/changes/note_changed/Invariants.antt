use Rattle.std.proofs.Common.{◌≡◌, ℕ, List, ◌||◌, ◌&&◌, is_some, map}
use Rattle.std.specs.BTreeMap.{get}
use Rattle.std.specs.Map.Iter.{deref_pair}
use Rattle.memberlist_view.specs.Rules.{name_cmp}
use Rattle.swimwatch.specs.Rosters.{is_other_now, said_of}
use Rattle.swimwatch.proofs.shown.changes.note_changed.Given as goal

abbrev pub invariant-loop-name : goal.invariant-loop-name
invariant-loop-name l =
    (name : List ℕ) → is_some (get name_cmp l.names name)
    ≡ (is_some (get name_cmp l.fn.names name) || (is_some (said_of (map deref_pair l.yielded) name) && is_other_now (said_of l.before name) (said_of l.after name)))
