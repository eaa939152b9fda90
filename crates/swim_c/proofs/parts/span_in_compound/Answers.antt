use Rattle.std.proofs.Common.{◌+◌, ◌*◌, ℕ, take, drop, Some, ap, ◌∙◌, sym, arith}
use Rattle.memberlist_message.proofs.Opening.{weight_of_compound}
use Rattle.swim_c.proofs.PartsAt.{part_in_all}
use Rattle.swim_c.proofs.parts.span_in_compound.Goals as goal

pub overflow_mul-start : goal.overflow_mul-start
overflow_mul-start c =
    let w = weight_of_compound c.args.message.now c.in_ok-parts.parts c.in_ok-parts.ensures in
    omega (arith, w, c.untaken.ensures.untaken)

pub overflow_add-start : goal.overflow_add-start
overflow_add-start c =
    let w = weight_of_compound c.args.message.now c.in_ok-parts.parts c.in_ok-parts.ensures in
    omega (arith, w, c.untaken.ensures.untaken)

pub overflow_add-result : goal.overflow_add-result
overflow_add-result c =
    let w = weight_of_compound c.args.message.now c.in_ok-parts.parts c.in_ok-parts.ensures in
    omega (arith, w, c.untaken.ensures.untaken, c.in_ok-span.ensures.within)

pub returns-clause-part : goal.returns-clause-part
returns-clause-part c =
    let p = c.in_ok-parts.parts in
    let s = c.in_ok-span.span in
    part_in_all c.args.message.now p c.args.i s.at s.len c.in_ok-parts.ensures c.in_ok-span.ensures.part
    ∙ ap (λ (n : ℕ). Some (take s.len (drop (2 + 2 * n + s.at) c.args.message.now))) (sym c.untaken.ensures.untaken)

pub returns-clause-within : goal.returns-clause-within
returns-clause-within c =
    let w = weight_of_compound c.args.message.now c.in_ok-parts.parts c.in_ok-parts.ensures in
    omega (arith, w, c.untaken.ensures.untaken, c.in_ok-span.ensures.within)
