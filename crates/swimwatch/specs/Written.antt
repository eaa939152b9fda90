-- Text that is written piece by piece.
use Rattle.std.specs.Prelude.{if◌then◌else◌, ℕ, List, Option, Some, None}
use Rattle.std.specs.String.{string_bytes}
use Rattle.swimwatch.specs.declared.text.written.Text.{Text}

-- what was written, unless memory was refused for some of it
abbrev pub written : Text → Option (List ℕ)
written text = if text.is_refused then None else Some (string_bytes text.text)
