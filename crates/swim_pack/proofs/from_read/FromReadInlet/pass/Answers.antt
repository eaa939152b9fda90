use Rattle.std.proofs.Common.{◌≡◌, ◌+◌, ◌-◌, ◌≤◌, length, drop, slice_range, ap, ◌∙◌, arith}
use Rattle.std.proofs.lemmas.List.{length-drop, length-take-le}
use Rattle.swim_pack.proofs.Known.{Consumes-given}
use Rattle.swim_pack.proofs.from_read.FromReadInlet.pass.Goals as goal

pub returns-clause-passed : goal.returns-clause-passed
returns-clause-passed g c =
    let i = c.self.inside in
    let k = c.args.count in
    let view = ap (λ v. v.coming) c.self.view_is in
    let short = c.if-count-self.false in
    let within : i.start + k ≤ i.end = grind arith in
    let size : (i.start + k) - i.start ≡ k = omega arith in
    let room : (i.start + k) - i.start ≤ length (drop i.start i.buffer) = omega (arith, length-drop i.start i.buffer) in (
      slice_range i.buffer i.start (i.start + k),
      length-take-le _ _ room ∙ size,
      rw (← view) (Consumes-given _ i.buffer i.start k i.end within),
    )
