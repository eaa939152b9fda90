use Rattle.std.proofs.Common.{nat_lt, ltb-true, ltb-false, rules}
use Rattle.std.proofs.lemmas.List.Sorted.{IsPartitionPoint-from_clause, IsPartitionedBy-ltb}
use Rattle.memberlist_member.proofs.scale.count_below.Goals as goal

pub returns-clause-low : goal.returns-clause-low
returns-clause-low c =
    let parted = IsPartitionedBy-ltb (λ p. p) _ c.args.end c.requires in
    let point = IsPartitionPoint-from_clause
    (λ p. nat_lt p c.args.end) _ _ c.partition_point.ensures.partitioned parted (λ a r q k. search rules) in
    λ k d low high. ltb-true _ _ (point.0 k d low high)

pub returns-clause-high : goal.returns-clause-high
returns-clause-high c =
    let parted = IsPartitionedBy-ltb (λ p. p) _ c.args.end c.requires in
    let point = IsPartitionPoint-from_clause
    (λ p. nat_lt p c.args.end) _ _ c.partition_point.ensures.partitioned parted (λ a r q k. search rules) in
    λ k d low high. ltb-false _ _ (point.1 k d low high)
