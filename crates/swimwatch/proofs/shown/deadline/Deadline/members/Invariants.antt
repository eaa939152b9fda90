use Rattle.std.proofs.Common.{◌≡◌, ◌++◌, List, map, filter}
use Rattle.swimwatch.specs.Members.{is_since, member_of}
use Rattle.swimwatch.proofs.shown.deadline.Deadline.members.Given as goal

abbrev pub invariant-loop-name : goal.invariant-loop-name
invariant-loop-name l =
    map member_of l.members.items ++ filter (λ e. is_since l.self.from e.1) l.name-iterator
    ≡ filter (λ e. is_since l.fn.self.from e.1) l.fn.view.entries
