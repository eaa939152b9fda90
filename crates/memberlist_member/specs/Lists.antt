-- Lists from which one is taken.
use Rattle.std.specs.Prelude.{ℕ, ◌-◌, Bool, if◌then◌else◌, List, [], ◌∷◌, drop, length}

module _ {X : Type 0} where
  -- without the first one that passes the test
  abbrev pub without_first : (X → Bool) → List X → List X
  without_first test [] = []
  without_first test (x ∷ xs) = if test x then xs else x ∷ without_first test xs

  -- without those at the front that pass the test
  abbrev pub past_all : (X → Bool) → List X → List X
  past_all test [] = []
  past_all test (x ∷ xs) = if test x then past_all test xs else x ∷ xs

  -- the last ones, at most so many
  abbrev pub newest : ℕ → List X → List X
  newest most xs = drop (length xs - most) xs

  -- with the first one that passes the test made another
  abbrev pub with_first : (X → Bool) → (X → X) → List X → List X
  with_first test other [] = []
  with_first test other (x ∷ xs) = if test x then other x ∷ xs else x ∷ with_first test other xs
