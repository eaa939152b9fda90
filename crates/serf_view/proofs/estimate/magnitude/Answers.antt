use Rattle.std.proofs.Common.{◌≡◌, ◌⊎◌, inl, inr, length, sym, ap, ◌∙◌}
use Rattle.std.specs.Float.{binary64, sqrt}
use Rattle.serf_view.proofs.Squares.{squares_after-end}
use Rattle.serf_view.proofs.estimate.magnitude.Goals as goal

pub returns : goal.returns
returns c =
    let xs = c.loop-x.x-iterator.a.rest.now in
    let ys = c.loop-x.x-iterator.b.rest.now in
    let done : (length xs ≡ 0) ⊎ (length ys ≡ 0) = elim c.in-None.ensures.steps [ inl w ↦ inl w.1.0 | inr w ↦ inr w.1.0 ] in
    c.sqrt.ensures.value ∙ ap (sqrt binary64) (sym (squares_after-end c.loop-x.sum xs ys done) ∙ c.loop-x.invariant)
