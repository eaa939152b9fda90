use Rattle.std.proofs.Common.{◌≡◌, ◌≢◌, ◌+◌, ◌-◌, ◌<◌, length, drop, take, refl, sym, ap, ◌∙◌, arith, length-drop, get_or-drop}
use Rattle.std.proofs.lemmas.List.{take_rest}
use Rattle.std.specs.Ordering.{nat_cmp}
use Rattle.std.specs.Cmp.Lexicographic.{slice_cmp}
use Rattle.memberlist_view.proofs.Words.{word, if_equal, if_unequal}
use Rattle.memberlist_view.proofs.member_name.order.Goals as goal

pub loop-one-init : goal.loop-one-init
loop-one-init c = record { same = refl; bytes = λ k. (c.type_inv.one k).fits; others = λ k. (c.type_inv.other k).fits }

pub returns-then-word-another : goal.returns-then-word-another
returns-then-word-another c =
    let inv = c.loop-one.invariant in
    let differ : word c.loop-one.one.now ≢ word c.loop-one.other.now = λ same. c.if-word-another.true
    (c.read_u64-word.ensures ∙ same ∙ sym c.read_u64-another.ensures) in
    c.cmp.ensures ∙ ap (λ w. nat_cmp w c.read_u64-another.result) c.read_u64-word.ensures ∙ ap (nat_cmp _) c.read_u64-another.ensures
    ∙ sym (if_unequal c.loop-one.one.now c.loop-one.other.now inv.bytes inv.others c.loop-one-test.true
    c.if-other-ge-WORD.true differ) ∙ inv.same

pub loop-one-smaller : goal.loop-one-smaller
loop-one-smaller c =
    let rest = ap length (take_rest c.loop-one.one.now 8) in
    let left = length-drop 8 c.loop-one.one.now in
    omega (arith, rest, left)

pub loop-one-preserved : goal.loop-one-preserved
loop-one-preserved c =
    let inv = c.loop-one.invariant in
    let level = sym c.read_u64-word.ensures ∙ c.if-word-another.false ∙ c.read_u64-another.ensures in
    rw (take_rest c.loop-one.one.now 8, take_rest c.loop-one.other.now 8)
    (record {
      same = sym (if_equal c.loop-one.one.now c.loop-one.other.now inv.bytes inv.others c.loop-one-test.true
          c.if-other-ge-WORD.true level) ∙ inv.same;
      bytes = λ k. rw get_or-drop (inv.bytes (8 + k));
      others = λ k. rw get_or-drop (inv.others (8 + k));
    })

pub returns : goal.returns
returns c = c.cmp-2.ensures ∙ c.loop-one.invariant.same
