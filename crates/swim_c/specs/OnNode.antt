-- Calls on a handle, by whether it has a node.
use Rattle.std.specs.Prelude.{◌≡◌, Option, Some, None, MatchOption}
use Rattle.swim_table.specs.Node.{NodeValue}

-- If the handle has a node, the call does this to it, and the handle keeps it. If it has none, it
-- gets none.
abbrev pub OnNode : Option NodeValue → Option NodeValue → Type 0
    → (NodeValue → NodeValue → Type 0) → Type 0
OnNode None None Without Does = Without
OnNode None (Some after) Without Does = ⊥
OnNode (Some before) None Without Does = ⊥
OnNode (Some before) (Some after) Without Does = Does before after

-- The handle keeps its node unchanged, and the call says this about it. Or it has none.
pub record OnSame (old new : Option NodeValue) (Without : Type 0)
    (Tells : NodeValue → Type 0) : Type 0 where
  pub same : new ≡ old
  pub tells : MatchOption old Without Tells
