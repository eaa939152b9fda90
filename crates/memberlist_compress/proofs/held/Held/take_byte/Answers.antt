use Rattle.std.proofs.Common.{refl, sym, ◌∙◌, arith}
use Rattle.memberlist_wrap.proofs.Holding.{held_count}
use Rattle.memberlist_compress.proofs.Holding.{first_bits, rest_below}
use Rattle.memberlist_compress.proofs.held.Held.take_byte.Goals as goal

pub returns-then-self-lt8 : goal.returns-then-self-lt8
returns-then-self-lt8 c =
    (refl, omega (arith, c.if-self-lt8.true, held_count c.self.inside.count c.self.inside.value c.args.self.now c.self.view_is))

pub invariant_of-self : goal.invariant_of-self
invariant_of-self c = (
  omega arith,
  rest_below c.self.inside.count c.self.inside.value c.if-self-lt8.false c.self.invariant.1,
)

pub returns : goal.returns
returns c = sym c.self.view_is ∙ first_bits c.self.inside.count c.self.inside.value c.if-self-lt8.false
