use Rattle.std.proofs.Common.{◌≡◌, ◌<◌, ◌-◌, ◌∙◌, ap, subst, get_or, length, slice_get, arith}
use Rattle.std.proofs.lemmas.List.{length-map}
use Rattle.std.specs.Option.{option_copied}
use Rattle.tiered_vec.specs.Sound.{shape}
use Rattle.tiered_vec.specs.Tiers.{items}
use Rattle.tiered_vec.proofs.Shapes.{block_read, block_good}
use Rattle.tiered_vec.proofs.Flat.{last_item}
use Rattle.tiered_vec.proofs.tiered_vec.TieredVec.last.Goals as goal

pub returns-in-Some : goal.returns-in-Some
returns-in-Some g c =
    let bs = c.self.inside.blocks.items in
    let block = c.in-Some.block.now in
    let k = length bs - 1 in
    let some : 0 < length bs = subst (λ l. 0 < length l) c.deref.ensures.value c.in-Some.ensures.item.3.0 in
    let read : block ≡ get_or bs k block = subst
    (λ l. block ≡ get_or l (length l - 1) block) c.deref.ensures.value c.in-Some.ensures.item.1 in
    let good = block_good bs k block (omega (arith, some)) read c.self.invariant.each in
    subst (λ v. option_copied c.last-in-Some.result ≡ slice_get (items v) (length (items v) - 1)) c.self.view_is
    (c.last-in-Some.ensures.value ∙ ap (λ l. slice_get l (length l - 1)) c.deref-in-Some.ensures.value
    ∙ last_item (shape bs) block.items k (omega (arith, some, length-map bs (λ b. b.items)))
    (block_read bs k block (omega (arith, some)) read) good.filled)
