use Rattle.std.proofs.Common.{ℕ, min, ap, ap₂, ◌∙◌}
use Rattle.capture.specs.Clock.{moved, time_of}
use Rattle.capture.proofs.clock.Clock.time.Goals as goal

pub returns : goal.returns
unfolding time_of
returns c =
    c.min.ensures
    ∙ ap₂ (λ (m t : ℕ). min m t) (c.moved-later.ensures ∙ ap
    (λ (n : ℕ). moved c.args.self.offset n) c.unshifted-nanos.ensures.is) c.from-most.ensures
