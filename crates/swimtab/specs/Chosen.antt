-- What the command line asks for.
use Rattle.std.specs.Prelude.{ℕ, List}
use Rattle.swimtab.specs.declared.verb.Verb.{Verb}

-- a verb, and the words that name files
pub record Choice : Type 0 where
  pub verb : Verb
  pub files : List (List ℕ)
