use Rattle.std.proofs.Common.{◌+◌, drop, rules}
use Rattle.std.specs.Option.{option_copied}
use Rattle.std.proofs.lemmas.List.{drop_all}
use Rattle.memberlist_member.specs.Versions.{versions_told}
use Rattle.memberlist_member.proofs.Compatible.{by_none, by_one, drop_at}
use Rattle.memberlist_member.proofs.versions.understood_by_records.Goals as goal

pub loop-told-preserved : goal.loop-told-preserved
loop-told-preserved c =
    let records = c.args.records.now in
    let at = c.loop-told.told-index in
    by_one versions_told _ c.loop-told.all c.by-all.result (drop at records) (drop (at + 1) records) c.told-item.result
    (option_copied c.versions_told.result) c.loop-told.invariant (drop_at records at c.told-item.result (search rules) c.told-item.is)
    c.versions_told.ensures c.by-all.ensures

pub returns : goal.returns
returns c =
    let records = c.args.records.now in
    let at = c.loop-told.told-index in
    by_none versions_told _ c.loop-told.all (drop at records) c.loop-told.invariant (drop_all at records (search rules))
