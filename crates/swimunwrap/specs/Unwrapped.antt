-- What becomes of lines, as contracts see it.
use Rattle.std.specs.Prelude.{ℕ, List, [], ◌∷◌, ◌++◌, ◌==◌, if◌then◌else◌}
use Rattle.swimunwrap.specs.declared.cause.Cause.{Cause}

-- the text, and why lines were left out
pub record Shown : Type 0 where
  pub text : List ℕ
  pub causes : List Cause

-- a line feed after the text, if lines came before
abbrev pub parted : ℕ → List ℕ → List ℕ
parted index text = if index == 0 then text else text ++ 10 ∷ []
