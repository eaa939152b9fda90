use Rattle.std.proofs.Common.{◌∙◌, ◌+◌, [], ap, set, get_or, take, drop, arith}
use Rattle.std.specs.List.{insert}
use Rattle.std.proofs.lemmas.List.{length-map}
use Rattle.tiered_vec.specs.Sound.{shape}
use Rattle.tiered_vec.specs.Tiers.{half_size}
use Rattle.tiered_vec.proofs.Flat.{cut-insert}
use Rattle.tiered_vec.proofs.Shapes.{shape-set, shape-insert, block_read}
use Rattle.tiered_vec.proofs.blocks.split.Goals as goal

pub returns-clause-shape : goal.returns-clause-shape
returns-clause-shape g c =
    let bs = c.args.blocks.now.items in
    let k = c.args.block in
    let read = block_read bs k c.index_mut.result.now c.requires.block c.index_mut.ensures.value in
    ap shape c.in-Ok.ensures.items
    ∙ shape-insert (set bs k c.move_upper.new.block) (k + 1) c.move_upper.new.upper
    ∙ ap (λ t. insert t (k + 1) c.move_upper.new.upper.items) (shape-set bs k c.move_upper.new.block)
    ∙ ap (λ l. insert (set (shape bs) k l) (k + 1) c.move_upper.new.upper.items) (c.move_upper.ensures.lower ∙ ap (take half_size) read)
    ∙ ap (λ l. insert (set (shape bs) k (take half_size (get_or (shape bs) k []))) (k + 1) l)
    (c.move_upper.ensures.upper ∙ ap (drop half_size) read)
    ∙ cut-insert (shape bs) k (omega (arith, c.requires.block, length-map bs (λ b. b.items)))
