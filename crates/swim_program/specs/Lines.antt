-- The lines of an input.
use Rattle.std.specs.Prelude.{ℕ, List, [], Option, None, Some, ◌==◌}
use Rattle.std.specs.Borrow.{Bor}
use Rattle.std.specs.List.{slice_split}

-- the lines between the line feeds
abbrev pub input_lines : List ℕ → List (List ℕ)
input_lines input = slice_split (λ b. b == 10) input

-- the lines of what is left, if there is anything
abbrev pub lines_left : Option (Bor (List ℕ)) → List (List ℕ)
lines_left None = []
lines_left (Some rest) = input_lines rest.now
