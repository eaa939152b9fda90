-- Members that died, and are dialled again.
use Rattle.std.specs.Prelude.{ℕ, Bool, List, nat_le}
use Rattle.std.specs.Ordering.{is_eq}
use Rattle.memberlist_view.specs.Rules.{name_cmp}
use Rattle.memberlist_member.specs.declared.lost.Lost.{Lost}

-- it has this name
abbrev pub is_lost : List ℕ → Lost → Bool
is_lost name lost = is_eq (name_cmp lost.name name)

-- it is dialled no more
abbrev pub is_given_up : ℕ → Lost → Bool
is_given_up now lost = nat_le lost.until now
