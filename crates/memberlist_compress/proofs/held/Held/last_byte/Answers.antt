use Rattle.std.proofs.Common.{◌-◌, ◌++◌, sym, ap, ◌∙◌, arith}
use Rattle.memberlist_wrap.specs.Bits.{bits}
use Rattle.memberlist_wrap.proofs.Holding.{held_count}
use Rattle.memberlist_compress.proofs.Holding.{padded_bits, value_small}
use Rattle.memberlist_compress.proofs.held.Held.last_byte.Goals as goal

pub returns-then-self-eq0 : goal.returns-then-self-eq0
unfolding bits
returns-then-self-eq0 c = sym c.self.view_is ∙ ap (λ n. bits n c.self.inside.value) c.if-self-eq0.true

pub overflow_cast-result : goal.overflow_cast-result
overflow_cast-result c =
    let h = c.self.inside in
    let count = held_count h.count h.value c.args.self.now c.self.view_is in
    record { fits = value_small h.count h.value (omega (arith, c.requires)) c.self.invariant.1 }

pub returns : goal.returns
returns c =
    let h = c.self.inside in
    let count = held_count h.count h.value c.args.self.now c.self.view_is in (
      omega (arith, c.if-self-eq0.false),
      padded_bits h.count h.value (omega (arith, c.requires)) c.self.invariant.1
          ∙ ap (λ x. x ++ bits (8 - h.count) 0) c.self.view_is
          ∙ ap (λ n. c.args.self.now ++ bits (8 - n) 0) (sym count),
    )
