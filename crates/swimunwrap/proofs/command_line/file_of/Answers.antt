use Rattle.std.proofs.Common.{◌∙◌, ◌∷◌, [], ◌++◌, ap, codes, map}
use Rattle.std.specs.Prelude.{string_bytes}
use Rattle.clap.specs.Words.{found_of}
use Rattle.clap.proofs.WalkLemmas.{first_value-rows}
use Rattle.swimunwrap.proofs.Commands.{one_file, no_file}
use Rattle.swimunwrap.proofs.command_line.file_of.Goals.{in-Some+in_ok-from_str+in_ok-push, in_default}
use Rattle.swimunwrap.proofs.command_line.file_of.Goals as goal

pub returns : goal.returns
returns c =
    let read = c.get_str.ensures ∙ first_value-rows (found_of c.args.found.now) (codes "FILE") in
    elim c.match-get_str.branch [
      | in-Some+in_ok-from_str+in_ok-push w ↦
          ap (λ v. map string_bytes v.items) w.files-is ∙ ap (map string_bytes) w.in_ok-push.ensures.items
          ∙ ap (λ l. map string_bytes (l ++ w.in_ok-from_str.field-0 ∷ [])) c.new-files.ensures.items
          ∙ one_file c.get_str.result w.in-Some.word _ _ read w.in-Some.is w.in_ok-from_str.ensures.ok
      | in_default w ↦
          ap (λ v. map string_bytes v.items) w.files-is ∙ ap (map string_bytes) c.new-files.ensures.items
          ∙ no_file c.get_str.result _ read w.in_default.is
    ]
