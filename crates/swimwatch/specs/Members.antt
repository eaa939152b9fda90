-- Which members of a view are shown.
use Rattle.std.specs.Prelude.{ℕ, nat_le, Bool, true, List, Option, Some, None}
use Rattle.memberlist_view.specs.declared.entry.Entry.{Entry}
use Rattle.swimwatch.specs.declared.shown.deadline.Member.{Member}

-- those whose state began at a moment or later, if there is one
abbrev pub is_since : Option ℕ → Entry → Bool
is_since (Some from) entry = nat_le from entry.since
is_since None entry = true

abbrev pub member_of : Member → List ℕ × Entry
member_of m = (m.name.now, m.entry.now)
