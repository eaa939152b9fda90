use Rattle.std.proofs.Common.{◌≡◌}
use Rattle.memberlist_member.specs.Versions.{are_understood, versions_shown}
use Rattle.memberlist_member.proofs.versions.are_shown_understood.Given as goal

abbrev pub invariant-loop-shown : goal.invariant-loop-shown
invariant-loop-shown l =
    are_understood (λ shown. versions_shown shown.1) l.fn.understood l.fn.view.entries
    ≡ are_understood (λ shown. versions_shown shown.1) l.fn.understood l.shown-iterator
