use Rattle.std.proofs.Common.{◌≡◌, drop}
use Rattle.memberlist_member.specs.Versions.{are_understood, versions_told}
use Rattle.memberlist_member.proofs.versions.are_told_understood.Given as goal

abbrev pub invariant-loop-told : goal.invariant-loop-told
invariant-loop-told l =
    are_understood versions_told l.fn.understood l.fn.records
    ≡ are_understood versions_told l.fn.understood (drop l.told-index l.fn.records)
