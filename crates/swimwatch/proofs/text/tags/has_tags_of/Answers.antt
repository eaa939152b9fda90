use Rattle.std.proofs.Common.{◌≡◌, ◌&&◌, ◌+◌, ◌-◌, Bool, true, false, List, Some, None, rules, arith, refl, sym, ap, ◌∙◌}
use Rattle.swimwatch.specs.Knowing.{Tag, has_all, has_tag, read_or_none, tag_at, whole_tags}
use Rattle.swimwatch.proofs.Changes.{no_tags, next_tag, none_left, one_left, opposite, test_of_value}
use Rattle.swimwatch.proofs.text.tags.has_tags_of.Goals as goal

pub returns-in_default-tag_at_hand : goal.returns-in_default-tag_at_hand
returns-in_default-tag_at_hand c =
    let left = c.in-Some-Some.others - c.loop.counter in
    let own = whole_tags c.in-Some-Some.count c.in-Some-Some.own.now in
    let so_far = c.loop.invariant left (omega (arith, c.loop-test.true)) in
    let none : read_or_none (tag_at c.loop.bytes.now) ≡ None = search rules in
    sym (none_left (left - 1) left own (omega (arith, c.loop-test.true)))
    ∙ sym (ap (λ (tags : List Tag). has_all left own tags) (no_tags left c.loop.bytes.now none)) ∙ so_far

pub returns-then-ne : goal.returns-then-ne
returns-then-ne c =
    let left = c.in-Some-Some.others - c.loop.counter in
    let own = whole_tags c.in-Some-Some.count c.in-Some-Some.own.now in
    let so_far = c.loop.invariant left (omega (arith, c.loop-test.true)) in
    let tag : Tag = (c.in-Some.tag.key.now, c.in-Some.tag.value.now) in
    let read : read_or_none (tag_at c.loop.bytes.now) ≡ Some (tag, c.in-Some.rest.now) = search rules in
    let tags = next_tag (left - 1) left c.loop.bytes.now tag c.in-Some.rest.now (omega (arith, c.loop-test.true)) read in
    let test = test_of_value c.value_at.result c.in-Some.tag.value own c.in-Some.tag.key.now c.value_at.ensures in
    let lacks = opposite true c.ne.result _ (has_tag own tag) c.ne.ensures test c.if-ne.true in
    sym (ap (λ (b : Bool). b && has_all (left - 1) own (whole_tags (left - 1) c.in-Some.rest.now)) lacks)
    ∙ sym (one_left (left - 1) left own tag (whole_tags (left - 1) c.in-Some.rest.now) (omega (arith, c.loop-test.true)))
    ∙ sym (ap (λ (ts : List Tag). has_all left own ts) tags) ∙ so_far

pub loop-preserved : goal.loop-preserved
loop-preserved c rest now =
    let own = whole_tags c.in-Some-Some.count c.in-Some-Some.own.now in
    let so_far = c.loop.invariant (rest + 1) (omega (arith, now)) in
    let tag : Tag = (c.in-Some.tag.key.now, c.in-Some.tag.value.now) in
    let read : read_or_none (tag_at c.loop.bytes.now) ≡ Some (tag, c.in-Some.rest.now) = search rules in
    let tags = next_tag rest (rest + 1) c.loop.bytes.now tag c.in-Some.rest.now refl read in
    let test = test_of_value c.value_at.result c.in-Some.tag.value own c.in-Some.tag.key.now c.value_at.ensures in
    let has = opposite false c.ne.result _ (has_tag own tag) c.ne.ensures test c.if-ne.false in
    sym (ap (λ (b : Bool). b && has_all rest own (whole_tags rest c.in-Some.rest.now)) has)
    ∙ sym (one_left rest (rest + 1) own tag (whole_tags rest c.in-Some.rest.now) refl)
    ∙ sym (ap (λ (ts : List Tag). has_all (rest + 1) own ts) tags) ∙ so_far

pub returns : goal.returns
returns c = c.loop.invariant 0 (omega (arith, c.loop-test.false))
