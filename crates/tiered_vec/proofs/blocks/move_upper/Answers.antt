use Rattle.std.proofs.Common.{◌≡◌, ◌∙◌, sym, ap, take, drop, length, reverse, arith}
use Rattle.std.proofs.lemmas.List.{take_at, drop_at, with_items_is}
use Rattle.tiered_vec.specs.Tiers.{half_size}
use Rattle.tiered_vec.proofs.blocks.move_upper.Goals as goal

pub returns-clause-lower : goal.returns-clause-lower
returns-clause-lower g c =
    let low = c.loop-block.block.items in
    let n : length low ≡ half_size = omega arith in
    sym (take_at low (reverse c.loop-block.upper.items) half_size n) ∙ ap (take half_size) c.loop-block.invariant.whole

pub returns-clause-upper : goal.returns-clause-upper
returns-clause-upper g c =
    let low = c.loop-block.block.items in
    let n : length low ≡ half_size = omega arith in
    with_items_is c.loop-block.upper c.reverse.new.self (omega arith)
    ∙ c.reverse.ensures.after ∙ ap reverse c.as_mut_slice.ensures.value
    ∙ sym (drop_at low (reverse c.loop-block.upper.items) half_size n) ∙ ap (drop half_size) c.loop-block.invariant.whole
