use Rattle.std.proofs.Common.{◌≡◌, ◌+◌, ◌-◌, true, false, List, ◌∷◌, Some, None, rules, arith, refl, sym, ap, ◌∙◌}
use Rattle.std.specs.Option.{option_copied}
use Rattle.std.specs.Str.{bytes_eq}
use Rattle.swimwatch.specs.Knowing.{Tag, read_or_none, tag_at, value_of, whole_tags}
use Rattle.swimwatch.proofs.Changes.{no_tags, next_tag}
use Rattle.swimwatch.proofs.text.tags.value_at.Goals as goal

pub returns-in_err-tag : goal.returns-in_err-tag
returns-in_err-tag c =
    let left = c.args.count - c.loop.counter in
    let so_far = c.loop.invariant left (omega (arith, c.loop-test.true)) in
    let none : read_or_none (tag_at c.loop.bytes.now) ≡ None = search rules in
    let nothing : option_copied c.from_residual.result ≡ None = search rules in
    nothing ∙ sym (ap (λ (tags : List Tag). value_of tags c.args.key.now) (no_tags left c.loop.bytes.now none)) ∙ so_far

pub returns-then-eq : goal.returns-then-eq
returns-then-eq c =
    let left = c.args.count - c.loop.counter in
    let so_far = c.loop.invariant left (omega (arith, c.loop-test.true)) in
    let tag : Tag = (c.in_ok-tag.tag.key.now, c.in_ok-tag.tag.value.now) in
    let read : read_or_none (tag_at c.loop.bytes.now) ≡ Some (tag, c.in_ok-tag.rest.now) = search rules in
    let tags = next_tag (left - 1) left c.loop.bytes.now tag c.in_ok-tag.rest.now (omega (arith, c.loop-test.true)) read in
    let same : bytes_eq c.in_ok-tag.tag.key.now c.args.key.now ≡ true = search rules in
    let there : value_of (tag ∷ whole_tags (left - 1) c.in_ok-tag.rest.now) c.args.key.now ≡ Some c.in_ok-tag.tag.value.now = rw same refl in
    sym there ∙ sym (ap (λ (tags : List Tag). value_of tags c.args.key.now) tags) ∙ so_far

pub loop-preserved : goal.loop-preserved
loop-preserved c rest now =
    let so_far = c.loop.invariant (rest + 1) (omega (arith, now)) in
    let tag : Tag = (c.in_ok-tag.tag.key.now, c.in_ok-tag.tag.value.now) in
    let read : read_or_none (tag_at c.loop.bytes.now) ≡ Some (tag, c.in_ok-tag.rest.now) = search rules in
    let tags = next_tag rest (rest + 1) c.loop.bytes.now tag c.in_ok-tag.rest.now refl read in
    let other : bytes_eq c.in_ok-tag.tag.key.now c.args.key.now ≡ false = search rules in
    let later : value_of (tag ∷ whole_tags rest c.in_ok-tag.rest.now) c.args.key.now ≡ value_of (whole_tags rest c.in_ok-tag.rest.now) c.args.key.now = rw other refl in
    sym later ∙ sym (ap (λ (tags : List Tag). value_of tags c.args.key.now) tags) ∙ so_far

pub returns : goal.returns
returns c = c.loop.invariant 0 (omega (arith, c.loop-test.false))
