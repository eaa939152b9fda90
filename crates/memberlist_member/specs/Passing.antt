-- How a round goes on to its next name.
use Rattle.std.specs.Prelude.{◌≡◌, ⊤, ◌+◌, if◌then◌else◌}
use Rattle.std.specs.Option.{is_some}
use mathlib.Core.Option.{none}
use Rattle.std.specs.Borrow.{MutBor, Fml, follows_so}
use Rattle.std.specs.List.{slice_get}
use Rattle.memberlist_member.specs.declared.rounds.Rounds.{Rounds}
use Rattle.memberlist_member.specs.contracts.rounds.Rounds.{the_row}

-- the names stay, and the next one is the one after this; at the end nothing changes
pub record IsPast (old new : Rounds) : Type 0 where
  pub names : new.names ≡ old.names
  pub at : new.at ≡ (if is_some (slice_get old.names.items old.at) then old.at + 1 else old.at)

-- so it is once the name is let go
abbrev pub GoesOn : MutBor Rounds → Fml
GoesOn s = follows_so the_row the_row s.ghost_name none (λ _ _. ⊤) (λ n. IsPast s.now n)
