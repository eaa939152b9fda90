use Rattle.std.proofs.Common.{◌+◌, drop, rules}
use Rattle.std.specs.Option.{option_copied}
use Rattle.std.proofs.lemmas.List.{drop_all}
use Rattle.memberlist_member.specs.Versions.{versions_told}
use Rattle.memberlist_member.proofs.Compatible.{also_one, drop_at, not_none, not_one}
use Rattle.memberlist_member.proofs.versions.are_told_understood.Goals as goal

pub returns-then-not-has : goal.returns-then-not-has
returns-then-not-has c =
    let records = c.args.records.now in
    let at = c.loop-told.told-index in
    not_one versions_told _ c.has.result c.args.understood (drop at records) (drop (at + 1) records) c.told-item.result
    (option_copied c.versions_told.result) c.loop-told.invariant (drop_at records at c.told-item.result (search rules) c.told-item.is)
    c.versions_told.ensures c.has.ensures (search rules)

pub loop-told-preserved : goal.loop-told-preserved
loop-told-preserved c =
    let records = c.args.records.now in
    let at = c.loop-told.told-index in
    also_one versions_told _ c.has.result c.args.understood (drop at records) (drop (at + 1) records) c.told-item.result
    (option_copied c.versions_told.result) c.loop-told.invariant (drop_at records at c.told-item.result (search rules) c.told-item.is)
    c.versions_told.ensures c.has.ensures (search rules)

pub returns : goal.returns
returns c =
    let records = c.args.records.now in
    let at = c.loop-told.told-index in
    not_none versions_told _ c.args.understood (drop at records) c.loop-told.invariant (drop_all at records (search rules))
