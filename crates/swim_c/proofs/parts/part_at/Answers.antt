use Rattle.std.proofs.Common.{ap, ◌∙◌, refl, take}
use Rattle.swim_c.specs.Parts.{first_of, PartDone}
use Rattle.swim_c.proofs.parts.part_at.Goals as goal

pub returns-in-Some : goal.returns-in-Some
returns-in-Some c =
    let here = c.split_at-in-Some.ensures.front ∙ ap (take c.in-Some.span.len) c.split_at.ensures.back in
    PartDone.there _ refl c.in-Some.ensures.part refl (c.first_byte.ensures ∙ ap first_of here)
