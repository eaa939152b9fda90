use Rattle.std.proofs.Common.{◌∙◌, ◌++◌, ◌∷◌, [], sym, ap, ap₂, map, refl}
use Rattle.std.specs.Prelude.{string_bytes}
use Rattle.std.proofs.lemmas.List.{map_push, get_or_default}
use Rattle.swim_program.proofs.Copies.{one_more}
use Rattle.swim_program.proofs.words.copies_of.Goals as goal

pub loop-word-preserved : goal.loop-word-preserved
loop-word-preserved c =
    let pushed = ap (map string_bytes) c.in_ok-push.ensures.items
    ∙ map_push string_bytes c.loop-word.copies.items c.in_ok-from_str.field-0 in
    pushed ∙ ap₂ (λ xs x. xs ++ x ∷ []) c.loop-word.invariant c.in_ok-from_str.ensures.ok
    ∙ sym
    (one_more (λ word. word.now) c.args.words.now c.loop-word.word-index _ _ c.loop-word-test.true
    (get_or_default c.args.words.now c.loop-word.word-index _ _ c.loop-word-test.true) refl)
