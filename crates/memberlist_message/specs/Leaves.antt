-- The leaves of messages: the parts of a compound message take its place, and they may be compound
-- messages themselves.
use Rattle.std.specs.Prelude.{◌≡◌, ℕ, ◌+◌, List, [], ◌∷◌, ◌++◌, Some, None}
use Rattle.memberlist_message.specs.Compounds.{PartsValue, compound_of, parts_in, truncated_in}

-- these messages have these leaves, in order, and so many parts are truncated
pub data AreLeaves : List (List ℕ) → List (List ℕ) → ℕ → Type 0 where
  none : AreLeaves [] [] 0
  leaf : (message : List ℕ) (messages leaves : List (List ℕ)) (truncated : ℕ)
      → compound_of message ≡ None → AreLeaves messages leaves truncated
      → AreLeaves (message ∷ messages) (message ∷ leaves) truncated
  opened : (message : List ℕ) (messages leaves : List (List ℕ)) (truncated : ℕ) (parts : PartsValue)
      → compound_of message ≡ Some parts
      → AreLeaves (parts_in parts.lens parts.bytes ++ messages) leaves truncated
      → AreLeaves (message ∷ messages) leaves (truncated_in parts.lens parts.bytes + truncated)
