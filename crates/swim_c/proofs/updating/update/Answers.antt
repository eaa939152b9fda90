use Rattle.std.proofs.Common.{◌≡◌, ◌∙◌, ap, subst}
use Rattle.swim_claim.specs.Details.{DetailsValue}
use Rattle.swim_table.specs.Node.{NodeValue}
use Rattle.swim_c.specs.Opening.{told}
use Rattle.swim_c.specs.Taking.{RefuteDone}
use Rattle.swim_c.specs.Updating.{UpdateDone, with_details}
use Rattle.swim_c.proofs.Updates.{refused_same, restored}
use Rattle.swim_c.proofs.updating.update.Goals as goal

pub returns-then-refuted-ne-DONE-clause-updates : goal.returns-then-refuted-ne-DONE-clause-updates
returns-then-refuted-ne-DONE-clause-updates c =
    let p = c.args.parts in
    let d : DetailsValue = told p.addr.now p.port p.meta.now p.vsn.now in
    let before = c.args.held.now.node in
    let w = c.refute-refuted.result in
    let mid : c.replace_details-old.new.self ≡ with_details before d =
    c.replace_details-old.ensures.new ∙ ap (with_details before) c.in-Ok.ensures.details in
    let same = refused_same w.status w.due w.inc c.replace_details-old.new.self
    c.refute-refuted.new.held.node c.refute-refuted.ensures.refutes c.if-refuted-ne-DONE.true in
    let gone : c.refute-refuted.new.held.node ≡ with_details before d = same ∙ mid in
    UpdateDone.refused c.if-refuted-ne-DONE.true
    (subst (λ (n : NodeValue). RefuteDone w.status w.due w.inc n (with_details before d)) mid
    (subst (λ (n : NodeValue). RefuteDone w.status w.due w.inc c.replace_details-old.new.self n) gone c.refute-refuted.ensures.refutes))
    (restored before c.refute-refuted.new.held.node c.replace_details.new.self d c.replace_details-old.result
    c.replace_details-old.ensures.old gone c.replace_details.ensures.new)
