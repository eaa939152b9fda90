use Rattle.std.proofs.Common.{◌≡◌, ℕ, ◌-◌, List, [], ◌∷◌, ◌++◌, length, take, append-nil, map, Bor, refl, sym, ap, subst, ◌∙◌, arith}
use Rattle.std.proofs.lemmas.List.{map-append}
use Rattle.memberlist_message.specs.Compounds.{PartsValue, parts_in, truncated_in}
use Rattle.memberlist_message.specs.Leaves.{AreLeaves}
use Rattle.memberlist_message.proofs.Opening.{Going, only_leaf, going_begins, going_ends, ends_smaller, ends_fit}
use Rattle.memberlist_message.proofs.Opening.{leaf_smaller, going_leaf, compound_smaller, going_compound, going_done}
use Rattle.memberlist_message.proofs.leaves.Leaves.of.Goals as goal

-- the bytes of one more part
and_part : (xs ys : List (Bor (List ℕ))) (x : Bor (List ℕ)) → ys ≡ xs ++ x ∷ []
    → map (λ (r : Bor (List ℕ)). r.now) ys ≡ map (λ (r : Bor (List ℕ)). r.now) xs ++ x.now ∷ []
and_part xs ys x is = ap (λ (zs : List (Bor (List ℕ))). map (λ (r : Bor (List ℕ)). r.now) zs) is ∙ map-append
    (λ (r : Bor (List ℕ)). r.now) xs (x ∷ [])

none_yet : (xs : List (Bor (List ℕ))) → xs ≡ [] → map (λ (r : Bor (List ℕ)). r.now) xs ≡ []
none_yet xs is = ap (λ (zs : List (Bor (List ℕ))). map (λ (r : Bor (List ℕ)). r.now) zs) is

emptied : (old new : List PartsValue) (n : ℕ) → n ≡ 0 → old ≡ new ++ [] → new ≡ take (n - 1) old → old ≡ []
emptied old new n no_more items rest =
    let zero : n - 1 ≡ 0 = omega (arith, no_more) in
    items ∙ (append-nil new ∙ (rest ∙ ap (λ (k : ℕ). take k old) zero))

pub returns-in_default : goal.returns-in_default
returns-in_default c =
    subst (λ (xs : List (List ℕ)). AreLeaves (c.args.message.now ∷ []) xs 0)
    (sym (and_part _ _ c.args.message c.in_ok-push.ensures.items ∙ ap
    (λ (xs : List (List ℕ)). xs ++ c.args.message.now ∷ []) (none_yet _ c.new-taken.ensures.items)))
    (only_leaf _ c.in_default.ensures)

pub loop-parts-init : goal.loop-parts-init
loop-parts-init c =
    going_begins _ _ _ c.in-Some.parts c.in-Some.ensures (none_yet _ c.new-taken.ensures.items)
    (c.in_ok-push-2.ensures.items ∙ ap (λ (ps : List PartsValue). ps ++ c.in-Some.parts ∷ []) c.new-stack.ensures.items)

pub overflow_add-truncated : goal.overflow_add-truncated
overflow_add-truncated c =
    let kept = c.in_default-next_part.ensures.kept in
    let fits = ends_fit _ _ _ _ _ c.in-Some-pop.parts c.loop-parts.invariant c.in-Some-pop.ensures.items _
    (c.untaken-truncated.ensures.untaken ∙ ap (λ (p : PartsValue). length p.lens) kept) in
    omega (arith, fits)

pub loop-parts-smaller-in_default-next_part : goal.loop-parts-smaller-in_default-next_part
loop-parts-smaller-in_default-next_part c =
    ends_smaller _ _ _ _ _ c.in-Some-pop.parts c.loop-parts.invariant c.in-Some-pop.ensures.items

pub loop-parts-preserved-in_default-next_part : goal.loop-parts-preserved-in_default-next_part
loop-parts-preserved-in_default-next_part c =
    let last = c.in_default-next_part.ensures.part in
    let kept = c.in_default-next_part.ensures.kept in
    going_ends _ _ _ _ _ c.in-Some-pop.parts c.loop-parts.invariant c.in-Some-pop.ensures.items _ last
    (c.untaken-truncated.ensures.truncated (ap (λ (p : PartsValue). parts_in p.lens p.bytes) kept ∙ last)
    ∙ ap (λ (p : PartsValue). truncated_in p.lens p.bytes) kept)
    (c.untaken-truncated.ensures.untaken ∙ ap (λ (p : PartsValue). length p.lens) kept)

pub loop-parts-smaller-in_default-of : goal.loop-parts-smaller-in_default-of
loop-parts-smaller-in_default-of c =
    let n = c.in-Some-next_part.ensures in
    leaf_smaller _ _ _ _ _ c.in-Some-pop.parts c.loop-parts.invariant c.in-Some-pop.ensures.items
    c.next_part.new.self _ _ n.part n.truncated n.kept n.bytes c.in_ok-push-3.ensures.items

pub loop-parts-preserved-in_default-of : goal.loop-parts-preserved-in_default-of
loop-parts-preserved-in_default-of c =
    let n = c.in-Some-next_part.ensures in
    going_leaf _ _ _ _ _ c.in-Some-pop.parts c.loop-parts.invariant c.in-Some-pop.ensures.items
    c.next_part.new.self _ _ n.part n.truncated n.kept n.bytes c.in_ok-push-3.ensures.items
    _ c.in_default-of.ensures (and_part _ _ c.in-Some-next_part.part c.in_ok-push-4.ensures.items)

pub loop-parts-smaller : goal.loop-parts-smaller
loop-parts-smaller c =
    let n = c.in-Some-next_part.ensures in
    compound_smaller _ _ _ _ _ c.in-Some-pop.parts c.loop-parts.invariant c.in-Some-pop.ensures.items
    c.next_part.new.self _ _ n.part n.truncated n.kept n.bytes c.in_ok-push-3.ensures.items
    c.in-Some-of.inner _ c.in-Some-of.ensures c.in_ok-push-5.ensures.items

pub loop-parts-preserved : goal.loop-parts-preserved
loop-parts-preserved c =
    let n = c.in-Some-next_part.ensures in
    going_compound _ _ _ _ _ c.in-Some-pop.parts c.loop-parts.invariant c.in-Some-pop.ensures.items
    c.next_part.new.self _ _ n.part n.truncated n.kept n.bytes c.in_ok-push-3.ensures.items
    c.in-Some-of.inner _ c.in-Some-of.ensures c.in_ok-push-5.ensures.items

pub returns : goal.returns
returns c =
    let p = c.in_default-pop.ensures in
    going_done _ _ _ _ c.loop-parts.invariant (emptied _ _ _ p.cases.0 p.items p.rest)
