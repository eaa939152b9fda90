-- The commands that `clap` finds, and why it refuses words.
use Rattle.std.proofs.Common.{◌≡◌, ◌⊎◌, ◌∙◌, inl, inr, Bool, true, false, List, [], ◌∷◌, Option, Some, None, refl, ap, map, subst, sym}
use Rattle.std.specs.Prelude.{find, option_map, Box}
use Rattle.std.specs.Box.{box_value}
use Rattle.std.specs.Option.{IsSomeAnd}
use Rattle.clap.specs.Simple.{App, entered, label_of, rows_at}
use Rattle.clap.specs.Walk.{answers_to}
use Rattle.clap.specs.declared.parser.matches.SubCommand.{SubCommand}
use Rattle.clap.specs.Words.{Shape, Text, subcommand_rows}
use Rattle.clap.specs.declared.parser.matches.ArgMatches.TheViews.{out-SubCommand}
use Rattle.clap.specs.Kinds.{HasKind, IsAmong, Kinds}
use Rattle.clap.specs.Values.{kind_of}
use Rattle.clap.specs.declared.error.Error.{Error}
use Rattle.clap.specs.declared.error.kind.ErrorKind.TheVariants.{OutOfMemory}
use Rattle.swim_program.specs.declared.words.WordFault.{WordFault}
use Rattle.swim_program.specs.declared.words.WordFault.TheVariants as fault
use Rattle.swim_program.specs.Words.{IsFaultOf, IsRefusal}

pub some_of : {T : Type 0} (o : Option T) (x : T) → IsSomeAnd o (λ y. y ≡ x) → o ≡ Some x
some_of None x h = absurd h
some_of (Some y) x h = ap Some h

-- ---- why words are refused

pub memory_of : (error : Error) (f : WordFault) → IsFaultOf error f → kind_of error ≡ OutOfMemory → f ≡ fault.Memory
memory_of error (fault.Words other) h oom = absurd (h.1 oom)
memory_of error fault.Memory h oom = refl

pub refusal : (error : Error) (f : WordFault) (kinds : Kinds) → IsFaultOf error f → HasKind kinds error → IsRefusal kinds f
refusal error (fault.Words other) kinds h (inl oom) = absurd (h.1 oom)
refusal error (fault.Words other) kinds h (inr among) = subst (λ e. IsAmong (kind_of e) kinds) (sym h.0) among
refusal error fault.Memory kinds h either = tt

-- ---- the name of the command that was found

abbrev pub IsIn : List Text → Text → Type 0
IsIn [] n = ⊥
IsIn (x ∷ xs) n = (n ≡ x) ⊎ IsIn xs n

found_in : {S : Type 0} (test : S → Bool) (name : S → Text) (n : Text) (xs : List S)
    → option_map name (find test xs) ≡ Some n → IsIn (map name xs) n
found_in test name n [] e = absurd cc
found_in test name n (x ∷ xs) e = by_test (found_in test name n xs) (test x) refl
  where
    by_test : (option_map name (find test xs) ≡ Some n → IsIn (map name xs) n) → (t : Bool) → test x ≡ t → IsIn (map name (x ∷ xs)) n
    by_test later true is = let same : Some (name x) ≡ Some n = rw is at e in inl cc
    by_test later false is = let rest : option_map name (find test xs) ≡ Some n = rw is at e in inr (later rest)

pub names_agree : {Z : Type 0} (o : Option (Box SubCommand Z)) → option_map (λ p. p.0) (subcommand_rows o) ≡ option_map
    (λ b. (out-SubCommand (box_value b)).name.now) o
names_agree None = refl
names_agree (Some b) = refl

name_kept : (o : Option Shape) (words : List Text)
    → option_map (λ p. p.0) (option_map (λ s. rows_at s words) o) ≡ option_map (λ s. s.name) o
name_kept None words = refl
name_kept (Some s) words = refl

-- it is one of the commands
pub is_command : (a : App) (n : Text) (stop : Option (Text × List Text)) → option_map (λ p. p.0) (entered a stop) ≡ Some n
    → IsIn (map (λ (s : Shape). s.name) a.subs) n
is_command a n None e = absurd cc
is_command a n (Some p) e =
    found_in (λ s. answers_to p.0 (label_of s))
    (λ (s : Shape). s.name) n a.subs (sym
    (name_kept (find (λ s. answers_to p.0 (label_of s)) a.subs) p.1) ∙ e)
