use Rattle.std.proofs.Common.{◌≡◌, drop}
use Rattle.memberlist_member.specs.Versions.{understood_by_all, versions_told}
use Rattle.memberlist_member.proofs.versions.understood_by_records.Given as goal

abbrev pub invariant-loop-told : goal.invariant-loop-told
invariant-loop-told l =
    understood_by_all versions_told l.fn.understood l.fn.records
    ≡ understood_by_all versions_told l.all (drop l.told-index l.fn.records)
