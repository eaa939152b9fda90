-- A member whose details are replaced.
use Rattle.std.proofs.Common.{◌≡◌, ◌≢◌, ℕ, Bool, ap, ◌∙◌}
use Rattle.swim_claim.specs.Details.{DetailsValue}
use Rattle.swim_table.specs.Node.{NodeValue}
use Rattle.swim_c.specs.Taking.{RefuteDone, RefuteDone as done}
use Rattle.swim_c.specs.Updating.{with_details}

-- a refutation that was refused changed nothing
pub refused_same : (status : ℕ) (due : Bool) (inc : ℕ) (before after : NodeValue)
    → RefuteDone status due inc before after → status ≢ 0 → after ≡ before
refused_same status due inc before after (done.refuted zero is made member) not = absurd (not zero)
refused_same status due inc before after (done.at_rest zero is none rest same) not = same
refused_same status due inc before after (done.exhausted is none zero why same) not = same
refused_same status due inc before after (done.gone at is none zero why same) not = same
refused_same status due inc before after (done.memory is none zero why same) not = same

-- the details that were there are back
pub restored : (before mid after : NodeValue) (details old : DetailsValue) → old ≡ before.details
    → mid ≡ with_details before details → after ≡ with_details mid old
    → after ≡ before
restored before mid after details old was is back =
    back ∙ ap (λ (n : NodeValue). with_details n old) is ∙ ap (with_details before) was
