use Rattle.std.proofs.Common.{None, IfSome, sym, subst}
use Rattle.memberlist_view.specs.Lasting.{IsSince}
use Rattle.memberlist_view.specs.Shown.{shown}
use Rattle.memberlist_view.proofs.Since.{next_since}
use Rattle.memberlist_view.proofs.Viewing.{shown_from-last}
use Rattle.memberlist_view.proofs.laws.since_the_last_change.Goals as goal

pub returns : goal.returns
returns c = λ wait past heard name.
    subst (λ o. IfSome o (IsSince (shown wait past name) heard.time)) (sym (shown_from-last wait name None past heard))
    (next_since wait name (shown wait past name) heard)
