-- The arguments of the command line, and what they ask for.
use Rattle.std.specs.Prelude.{◌≡◌, true, List, [], Option, Some, None, codes, if◌then◌else◌, unwrap_or}
use Rattle.std.specs.Str.{bytes_eq}
use Rattle.clap.specs.Lexer.{usize_max}
use Rattle.clap.specs.Words.{App, Row, Rule, Text, all_of, new_app, new_rule, with_rule, with_subcommand}
use Rattle.swimtab.specs.declared.verb.Verb.{Verb}
use Rattle.swimtab.specs.declared.verb.Verb.TheVariants as verb
use Rattle.swimtab.specs.Chosen.{Choice}

-- ---- the commands, as `clap` sees them

-- the words that name files: one or more
abbrev pub files_rule : Rule
files_rule = record (new_rule (codes "FILE")) {
  required = true;
  range = Some (record { start_inclusive = 1; end_inclusive = usize_max });
}

-- two of them
abbrev pub pair_rule : Rule
pair_rule = record (new_rule (codes "FILE")) { required = true; value_names = 2 }

-- a command that names files
abbrev pub files_command : Text → App
files_command name = with_rule (new_app name) files_rule

-- a command that names two files
abbrev pub pair_command : Text → App
pair_command name = with_rule (new_app name) pair_rule

-- the program without any commands
abbrev pub bare : App
bare = record (new_app (codes "swimtab")) {
  top = record (new_app (codes "swimtab")).top {
    no_binary_name = true;
    disable_help_subcommand = true;
    has_version = true;
  };
}

-- a command after those before it
abbrev pub beside : App → App → App
beside before command = with_subcommand before command.top

-- the commands that take files
abbrev pub filing : App
filing =
    beside (beside (beside (beside bare
    (files_command (codes "list")))
    (files_command (codes "merge")))
    (pair_command (codes "relate")))
    (pair_command (codes "loop"))

-- no words, or `list`, `merge`, `relate` or `loop` with files, or `run`
abbrev pub program : App
program = beside filing (new_app (codes "run"))

-- ---- what the words ask for

-- what a command asks for, by its name
abbrev pub verb_of : Text → Option Verb
verb_of name =
    if bytes_eq name (codes "list") then Some verb.List
    else (if bytes_eq name (codes "merge") then Some verb.Merge
    else (if bytes_eq name (codes "relate") then Some verb.Relate
    else (if bytes_eq name (codes "loop") then Some verb.Loop
    else (if bytes_eq name (codes "run") then Some verb.Run
    else None))))

-- without a command the packets are listed, and a command has the files that its words name
abbrev pub ParsesTo : Option (Text × List Row) → Choice → Type 0
ParsesTo None choice = (choice.verb ≡ verb.Packets) × (choice.files ≡ [])
ParsesTo (Some command) choice = (verb_of command.0 ≡ Some choice.verb)
    × (choice.files ≡ unwrap_or (all_of (codes "FILE") command.1) [])
