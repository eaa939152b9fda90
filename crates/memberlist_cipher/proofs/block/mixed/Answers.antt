use Rattle.std.proofs.Common.{ℕ, List, map, ap, ◌∙◌}
use Rattle.memberlist_cipher.specs.Tower.{once, twice}
use Rattle.memberlist_cipher.specs.declared.block.TheConstants.{ROWS}
use Rattle.memberlist_cipher.proofs.Rounds.{moved, mixed_is}
use Rattle.memberlist_cipher.proofs.block.mixed.Goals as goal

pub returns : goal.returns
returns c s state is =
    mixed_is s _ _ state
    (c.once_and_twice.ensures.once ∙ ap (λ (t : List ℕ). map once (moved t ROWS)) is)
    (c.once_and_twice.ensures.twice ∙ ap (λ (t : List ℕ). map twice (moved t ROWS)) is)
