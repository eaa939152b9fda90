-- The arguments, and what they ask for.
use Rattle.std.specs.Prelude.{◌≡◌, Bool, true, false, List, [], ◌∷◌, ◌++◌, Option, Some, None, codes, if◌then◌else◌, unwrap_or}
use Rattle.std.specs.Str.{bytes_eq}
use Rattle.clap.specs.declared.builder.action.ArgAction.TheVariants.{Append, SetTrue}
use Rattle.clap.specs.Walk.{all_of}
use Rattle.clap.specs.Words.{App, Row, Rule, Text, first_of, new_app, new_rule, with_rule, with_subcommand}
use Rattle.memberlist_transport.specs.declared.in_the_clear.InTheClear.{InTheClear}
use Rattle.memberlist_transport.specs.declared.in_the_clear.InTheClear.TheVariants.{Refused, Accepted}
use Rattle.swimunwrap.specs.declared.verb.Verb.{Verb}
use Rattle.swimunwrap.specs.declared.verb.Verb.TheVariants as verb
use Rattle.swimunwrap.specs.Chosen.{Choice}

-- ---- the commands, as `clap` sees them

-- the flag that asks to leave out what cannot be read
abbrev pub skip_rule : Rule
skip_rule = record (new_rule (codes "skip")) { long = Some (codes "skip"); action = Some SetTrue }

-- the flag before each argument that names a key file
abbrev pub key_rule : Rule
key_rule = record (new_rule (codes "key-file")) {
  long = Some (codes "key-file");
  action = Some Append;
}

-- the flag that accepts what is in the clear
abbrev pub clear_rule : Rule
clear_rule = record (new_rule (codes "accept-clear")) {
  long = Some (codes "accept-clear");
  action = Some SetTrue;
}

-- an optional argument that names a file
abbrev pub file_rule : Rule
file_rule = new_rule (codes "FILE")

-- the command whose argument may name a file
abbrev pub stream_command : App
stream_command =
    with_rule (with_rule (with_rule (new_app (codes "stream")) key_rule) clear_rule) file_rule

-- the program without its flags and its command
abbrev pub bare : App
bare = record (new_app (codes "swimunwrap")) {
  top = record (new_app (codes "swimunwrap")).top {
    no_binary_name = true;
    disable_help_subcommand = true;
    has_version = true;
  };
}

-- no arguments, or `--skip`, or `stream` with or without a file; and in both places key files, and
-- whether what is in the clear is accepted
abbrev pub program : App
program =
    with_subcommand (with_rule (with_rule (with_rule bare skip_rule) key_rule) clear_rule)
    stream_command.top

-- ---- what the arguments ask for

-- the first text of a list, as a list
abbrev pub at_most_one : Option Text → List Text
at_most_one None = []
at_most_one (Some word) = word ∷ []

-- a flag is set: `clap` has the text `true` for it
abbrev pub is_true : Option Text → Bool
is_true None = false
is_true (Some text) = bytes_eq text (codes "true")

-- without a command lines are unwrapped, and left out if the flag says so
abbrev pub verb_of : List Row → Verb
verb_of rows = if is_true (first_of (codes "skip") rows) then verb.Skipping else verb.Lines

-- what is in the clear is accepted if the flag says so
abbrev pub clear_of : List Row → InTheClear
clear_of rows = if is_true (first_of (codes "accept-clear") rows) then Accepted else Refused

-- it is accepted if either flag says so
abbrev pub either : InTheClear → InTheClear → InTheClear
either Accepted behind = Accepted
either Refused behind = behind

-- the arguments that name key files
abbrev pub key_words : List Row → List Text
key_words rows = unwrap_or (all_of (codes "key-file") rows) []

-- the command is `stream`, and has the file that its argument names; key files are named, and what is
-- in the clear is accepted, before it or after it
abbrev pub ParsesTo : Option (Text × List Row) → List Row → Choice → Type 0
ParsesTo None rows choice =
    (choice.verb ≡ verb_of rows) × (choice.files ≡ [])
    × (choice.key_files ≡ key_words rows) × (choice.clear ≡ clear_of rows)
ParsesTo (Some command) rows choice =
    (choice.verb ≡ verb.Stream)
    × (choice.files ≡ at_most_one (first_of (codes "FILE") command.1))
    × (choice.key_files ≡ key_words rows ++ key_words command.1)
    × (choice.clear ≡ either (clear_of rows) (clear_of command.1))
