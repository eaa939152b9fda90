use Rattle.std.proofs.Common.{List, ℕ, map, ap, ◌∙◌}
use Rattle.memberlist_cipher.specs.Tower.{plain}
use Rattle.memberlist_cipher.specs.declared.block.TheConstants.{ROWS}
use Rattle.memberlist_cipher.proofs.Rounds.{moved, scrambled_is}
use Rattle.memberlist_cipher.proofs.block.scrambled.Goals as goal

pub returns : goal.returns
returns c s state is = c.substituted.ensures ∙ ap (λ (t : List ℕ). map plain (moved t ROWS)) is ∙ scrambled_is s state
