use Rattle.std.proofs.Common.{None, ap, ◌∙◌}
use Rattle.memberlist_view.specs.Shown.{shown_from}
use Rattle.memberlist_view.proofs.Staying.{shown_still, shown_from-append}
use Rattle.memberlist_view.proofs.laws.gone_stays.Goals as goal

pub returns : goal.returns
returns c = λ wait past later name entry is gone not.
    let rest = shown_still wait name later entry gone not in
    (rest.0, shown_from-append wait name None past later ∙ (ap (λ o. shown_from wait name o later) is ∙ rest.1), rest.2)
