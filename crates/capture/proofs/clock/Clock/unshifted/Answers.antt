use Rattle.std.proofs.Common.{◌≡◌, ℕ, ◌*◌, ◌/◌, ◌-◌, ◌^◌, ap, sym, ◌∙◌, arith}
use Rattle.capture.proofs.Clocks.{nanos-two, nanos-ten, tenth}
use Rattle.capture.proofs.clock.Clock.unshifted.Goals as goal

pub returns-then-self-ge128-clause-is : goal.returns-then-self-ge128-clause-is
returns-then-self-ge128-clause-is c =
    ap (λ (n : ℕ). n * 1000000000 / 2 ^ (c.args.self.resolution - 128)) c.from-nanos.ensures
    ∙ sym (nanos-two c.args.self.resolution c.args.count c.if-self-ge128.true)

pub loop-preserved : goal.loop-preserved
loop-preserved c = record {
  divided = ap (λ (n : ℕ). n / 10) c.loop.invariant.divided ∙ tenth (c.args.count * 1000000000) c.loop.counter;
  bound = let below = c.loop.invariant.bound in omega arith;
}

pub returns-clause-is : goal.returns-clause-is
returns-clause-is c =
    let done : c.loop.counter ≡ c.args.self.resolution = omega arith in
    c.loop.invariant.divided ∙ ap (λ (k : ℕ). c.args.count * 1000000000 / 10 ^ k) done
    ∙ sym (nanos-ten c.args.self.resolution c.args.count c.if-self-ge128.false)
