use Rattle.std.proofs.Common.{◌+◌, ◌≤◌, ◌++◌, ap, ◌∙◌, arith}
use Rattle.memberlist_wrap.specs.Bits.{bits}
use Rattle.memberlist_wrap.proofs.Holding.{held_count}
use Rattle.memberlist_compress.proofs.Holding.{shifted, sum_below, sum_fits, sum_bits}
use Rattle.memberlist_compress.proofs.held.Held.add.Goals as goal

pub overflow_add-self : goal.overflow_add-self
overflow_add-self c =
    let h = c.self.inside in
    let room : h.count + c.args.width ≤ 24 = omega (arith, c.requires.room, held_count h.count h.value c.args.self.now c.self.view_is) in
    let e = shifted h.count c.args.width c.args.code room c.requires.narrow in
    let fits = sum_fits h.count c.args.width h.value c.args.code room c.self.invariant.1 c.requires.narrow in
    record { fits = omega arith }

pub invariant_of-self : goal.invariant_of-self
invariant_of-self c =
    let h = c.self.inside in
    let room : h.count + c.args.width ≤ 24 = omega (arith, c.requires.room, held_count h.count h.value c.args.self.now c.self.view_is) in
    let e = shifted h.count c.args.width c.args.code room c.requires.narrow in
    let below = sum_below h.count c.args.width h.value c.args.code c.self.invariant.1 c.requires.narrow in
    (room, omega arith)

pub returns : goal.returns
returns c =
    let h = c.self.inside in
    let room : h.count + c.args.width ≤ 24 = omega (arith, c.requires.room, held_count h.count h.value c.args.self.now c.self.view_is) in
    ap (λ x. bits (h.count + c.args.width) (h.value + x)) (shifted h.count c.args.width c.args.code room c.requires.narrow)
    ∙ sum_bits h.count c.args.width h.value c.args.code c.self.invariant.1
    ∙ ap (λ x. x ++ bits c.args.width c.args.code) c.self.view_is
