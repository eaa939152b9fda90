-- A swap is a permutation.
use Rattle.std.proofs.Common.{◌-◌, ◌<◌, length, rules, subst}
use Rattle.std.specs.List.Sorted.{IsPermutation}
use Rattle.std.proofs.lemmas.List.Sorted.{IsPermutation-swap}
use Rattle.memberlist_member.proofs.rounds.Rounds.add.Goals as goal

pub returns-clause-added : goal.returns-clause-added
returns-clause-added g c =
    let place : c.random_range-place.result < length c.push.new.self.items = search rules in
    let last : c.len-last.result - 1 < length c.push.new.self.items = search rules in
    subst (λ xs. IsPermutation xs c.swap.new.self.items) c.in_ok-push.ensures.items
    (IsPermutation-swap c.push.new.self.items c.swap.new.self.items c.random_range-place.result (c.len-last.result - 1) place last c.swap.ensures.items)
