use Rattle.std.proofs.Common.{refl, sym, ap, ◌∙◌}
use Rattle.std.specs.Option.{option_copied}
use Rattle.swim_pack.proofs.Composing.{Reads-some, Reads-none}
use Rattle.capture.proofs.section.Section.described.Goals as goal

pub returns-in-Some : goal.returns-in-Some
returns-in-Some c =
    let found = sym c.interface.ensures ∙ ap option_copied c.in-Some.is in
    λ at. Reads-some _ _ _ found

pub returns-in-None : goal.returns-in-None
returns-in-None c =
    let none = sym c.interface.ensures ∙ ap option_copied c.in-None.is in
    λ at. Reads-none _ _ refl none
