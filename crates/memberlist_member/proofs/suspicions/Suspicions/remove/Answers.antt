-- What is removed is at the place of the only one with this name.
use Rattle.std.proofs.Common.{◌≡◌, arith, sym, subst}
use Rattle.std.specs.List.{count_by, remove}
use Rattle.std.specs.List.Sorted.{IsPermutation}
use Rattle.std.proofs.lemmas.List.Sorted.{IsPermutation-refl}
use Rattle.memberlist_member.specs.Suspects.{is_suspect}
use Rattle.memberlist_member.proofs.Suspected.{AreOnce, none_swapped, once_swapped, once_there, others_swapped}
use Rattle.memberlist_member.proofs.Taking.{at_place, no_place, swapped}
use Rattle.memberlist_member.proofs.suspicions.Suspicions.remove.Goals as goal

pub invariant_of-self : goal.invariant_of-self
invariant_of-self c =
    let xs = c.args.self.now.list.items in
    let found = at_place (is_suspect c.args.name.now) xs c.in-Some.place c.swap_remove.result (sym c.in-Some.ensures) in
    record { apart = subst AreOnce (sym c.swap_remove.ensures.items) (once_swapped xs c.in-Some.place c.swap_remove.result found.less c.args.self.now.apart) }

pub returns-in-Some-clause-removed : goal.returns-in-Some-clause-removed
returns-in-Some-clause-removed c =
    let xs = c.args.self.now.list.items in
    let found = at_place (is_suspect c.args.name.now) xs c.in-Some.place c.swap_remove.result (sym c.in-Some.ensures) in
    subst (λ ys. IsPermutation ys c.swap_remove.new.self.items) found.left
    (subst (λ ys. IsPermutation (remove xs c.in-Some.place) ys) (sym c.swap_remove.ensures.items)
    (swapped xs c.in-Some.place c.swap_remove.result found.less))

pub returns-in-Some-clause-gone : goal.returns-in-Some-clause-gone
returns-in-Some-clause-gone c =
    let xs = c.args.self.now.list.items in
    subst (λ ys. count_by (is_suspect c.args.name.now) ys ≡ 0) (sym c.swap_remove.ensures.items)
    (none_swapped xs c.args.name.now c.in-Some.place c.swap_remove.result (sym c.in-Some.ensures) c.args.self.now.apart)

pub returns-in_default-clause-removed : goal.returns-in_default-clause-removed
returns-in_default-clause-removed c =
    let xs = c.args.self.now.list.items in
    subst (λ ys. IsPermutation ys xs) (sym (no_place (is_suspect c.args.name.now) xs (sym c.in_default.ensures)).left)
    (IsPermutation-refl xs)

pub returns-in_default-clause-gone : goal.returns-in_default-clause-gone
returns-in_default-clause-gone c =
    (no_place (is_suspect c.args.name.now) c.args.self.now.list.items (sym c.in_default.ensures)).none

pub returns-in-Some-clause-fewer : goal.returns-in-Some-clause-fewer
returns-in-Some-clause-fewer c =
    let xs = c.args.self.now.list.items in
    let found = at_place (is_suspect c.args.name.now) xs c.in-Some.place c.swap_remove.result (sym c.in-Some.ensures) in
    let one = once_there xs c.args.name.now c.in-Some.place c.swap_remove.result (sym c.in-Some.ensures) c.args.self.now.apart in
    omega (arith, one, c.swap_remove.ensures.len, found.less)

pub returns-in-Some-clause-others : goal.returns-in-Some-clause-others
returns-in-Some-clause-others c other differs =
    subst (λ ys. count_by (is_suspect other) ys ≡ count_by (is_suspect other) c.args.self.now.list.items) (sym c.swap_remove.ensures.items)
    (others_swapped c.args.self.now.list.items c.args.name.now c.in-Some.place c.swap_remove.result (sym c.in-Some.ensures) other differs)

pub returns-in_default-clause-fewer : goal.returns-in_default-clause-fewer
returns-in_default-clause-fewer c =
    let none = (no_place (is_suspect c.args.name.now) c.args.self.now.list.items (sym c.in_default.ensures)).none in
    omega (arith, none)
