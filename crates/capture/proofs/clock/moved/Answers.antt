use Rattle.std.proofs.Common.{ℕ, ◌+◌, ◌-◌, ◌*◌, ◌^◌, ap, sym, ◌∙◌}
use Rattle.capture.proofs.Clocks.{moved-later, moved-earlier}
use Rattle.capture.proofs.clock.moved.Goals as goal

pub returns-then-offset-lt-NEGATIVE : goal.returns-then-offset-lt-NEGATIVE
returns-then-offset-lt-NEGATIVE c =
    ap (λ (s : ℕ). c.args.nanos + s * 1000000000) c.from-seconds.ensures
    ∙ sym (moved-later c.args.offset c.args.nanos c.if-offset-lt-NEGATIVE.true)

pub returns : goal.returns
returns c =
    c.saturating_sub.ensures ∙ ap (λ (s : ℕ). c.args.nanos - (2 ^ 64 - s) * 1000000000) c.from-seconds.ensures
    ∙ sym (moved-earlier c.args.offset c.args.nanos c.if-offset-lt-NEGATIVE.false)
