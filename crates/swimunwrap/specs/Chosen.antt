-- What the arguments ask for.
use Rattle.std.specs.Prelude.{ℕ, List}
use Rattle.memberlist_transport.specs.declared.in_the_clear.InTheClear.{InTheClear}
use Rattle.swimunwrap.specs.declared.verb.Verb.{Verb}

-- a verb, the arguments that name files, at most one, those that name key files, and what becomes of
-- what is in the clear
pub record Choice : Type 0 where
  pub verb : Verb
  pub files : List (List ℕ)
  pub key_files : List (List ℕ)
  pub clear : InTheClear
