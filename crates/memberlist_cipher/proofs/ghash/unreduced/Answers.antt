use Rattle.std.proofs.Common.{◌≡◌, ℕ, ◌-◌, length, bit_xor, sym, ap, ap₂, ◌∙◌, arith}
use Rattle.std.proofs.lemmas.List.{length-map}
use Rattle.std.proofs.lemmas.Simd.{get_or-replicate}
use Rattle.memberlist_cipher.specs.Products.{shifted, poly, entry}
use Rattle.memberlist_cipher.proofs.Pushing.{step_is, begin_is, sum_first, sum_next, zeros_pushed}
use Rattle.memberlist_cipher.proofs.ghash.unreduced.Goals as goal

pub loop-step-init : goal.loop-step-init
loop-step-init c =
    let planes = c.args.planes.now in
    record {
      some = omega arith;
      value = begin_is c.entries-below.result ∙ ap poly c.entries-below.ensures ∙ sym (sum_first planes c.args.block);
      zero = λ j past within. get_or-replicate 16 j 0 0 within;
    }

pub loop-step-preserved : goal.loop-step-preserved
loop-step-preserved c =
    let planes = c.args.planes.now in
    let bs = c.args.block in
    let n = c.loop-step.step in
    let below = c.loop-step.below in
    let above = c.loop-step.above in
    let size : length c.entries.result ≡ 16 = ap length c.entries.ensures ∙ length-map bs (entry planes (15 - n)) ∙ c.fits-block.0 in
    record {
      some = omega arith;
      value =
          step_is below above c.entries.result c.loop-step.auto.below.0 c.loop-step.auto.above.0 size
          (c.loop-step.invariant.zero 15 (omega arith) (omega arith))
          ∙ ap₂ (λ (p q : ℕ). bit_xor p (shifted 8 q)) (ap poly c.entries.ensures) c.loop-step.invariant.value
          ∙ sum_next planes bs n (omega arith);
      zero = zeros_pushed below above n c.loop-step.auto.below.0 c.loop-step.auto.above.0
          c.loop-step.invariant.some c.loop-step.invariant.zero;
    }
