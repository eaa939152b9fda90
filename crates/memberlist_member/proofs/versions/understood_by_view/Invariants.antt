use Rattle.std.proofs.Common.{◌≡◌}
use Rattle.memberlist_member.specs.Versions.{everything, understood_by_all, versions_shown}
use Rattle.memberlist_member.proofs.versions.understood_by_view.Given as goal

abbrev pub invariant-loop-shown : goal.invariant-loop-shown
invariant-loop-shown l =
    understood_by_all (λ shown. versions_shown shown.1) everything l.fn.view.entries
    ≡ understood_by_all (λ shown. versions_shown shown.1) l.understood l.shown-iterator
