use Rattle.std.proofs.Common.{◌≡◌, ◌+◌, ◌-◌, inl, suc, drop, refl, sym, ap, ◌∙◌, arith}
use Rattle.std.proofs.lemmas.List.{drop_more, drop_all}
use Rattle.std.proofs.lemmas.Result.{err_from_is_err_and, MatchResult-weaker}
use Rattle.swim_pack.specs.Composing.{gives, then_read}
use Rattle.memberlist_message.specs.Reading.{elements_at, Fields}
use Rattle.memberlist_message.specs.Values.{slots_of}
use Rattle.memberlist_message.proofs.Slotting.{fault_of, no_elements, one_element, bad_element, later_elements, no_field}
use Rattle.memberlist_message.proofs.fields.read_elements.Goals as goal

pub loop-place-init : goal.loop-place-init
loop-place-init c = record { long = c.requires.long; same = refl }

pub returns-then-left-eq0 : goal.returns-then-left-eq0
returns-then-left-eq0 c = sym c.loop-place.invariant.same ∙ no_elements _ _ _ _ _ c.if-left-eq0.true

pub returns-in_err-rest : goal.returns-in_err-rest
returns-in_err-rest c =
    let p = err_from_is_err_and c.from_residual.result c.from_residual.ensures.1 in
    let e : c.loop-place.left ≡ suc (c.loop-place.left - 1) = omega arith in
    let here = drop_more c.args.layout.now c.loop-place.place no_field c.loop-place-test.true in
    let split = ap (λ (fields : Fields). elements_at fields c.loop-place.place c.loop-place.left
    (slots_of c.loop-place.values) c.loop-place.rest.now) here in
    rw (p.1, p.2) (fault_of _ _ _ (λ read. sym c.loop-place.invariant.same ∙ split
    ∙ bad_element _ _ _ _ _ _ _ _ e read) c.in_err-rest.ensures.exact)

pub loop-place-preserved : goal.loop-place-preserved
loop-place-preserved c =
    let e : c.loop-place.left ≡ suc (c.loop-place.left - 1) = omega arith in
    let next : c.loop-place.place + 1 ≡ suc c.loop-place.place = omega arith in
    let here = drop_more c.args.layout.now c.loop-place.place no_field c.loop-place-test.true in
    let split = ap (λ (fields : Fields). elements_at fields c.loop-place.place c.loop-place.left
    (slots_of c.loop-place.values) c.loop-place.rest.now) here in
    let more = ap (λ k. elements_at (drop (c.loop-place.place + 1) c.args.layout.now) k
    (c.loop-place.left - 1) (slots_of c.read_slot.new.values) c.in_ok-rest.rest.now) next in
    record {
      long = c.in_ok-rest.ensures.kept ∙ c.loop-place.invariant.long;
      same = more ∙ sym (one_element _ _ _ _ _ _ _ _ _ e c.in_ok-rest.ensures.exact) ∙ sym split
          ∙ c.loop-place.invariant.same;
    }

pub returns : goal.returns
returns c =
    let none = drop_all c.loop-place.place c.args.layout.now (omega arith) in
    let split = ap (λ (fields : Fields). elements_at fields c.loop-place.place c.loop-place.left
    (slots_of c.loop-place.values) c.loop-place.rest.now) none in
    let e = sym c.loop-place.invariant.same ∙ split ∙ later_elements _ _ _ _ in
    MatchResult-weaker c.after_values.result c.after_values.ensures
    (λ rest read. e ∙ ap (then_read (λ passed. gives (slots_of c.loop-place.values))) read)
    (λ error read. inl (e ∙ ap (then_read (λ passed. gives (slots_of c.loop-place.values))) read))
