use Rattle.std.proofs.Common.{◌∙◌, ap, set}
use Rattle.std.specs.List.{remove}
use Rattle.tiered_vec.specs.Sound.{shape}
use Rattle.tiered_vec.proofs.Shapes.{shape-set, block_read}
use Rattle.tiered_vec.proofs.blocks.take_from.Goals as goal

pub returns-clause-shape : goal.returns-clause-shape
returns-clause-shape g c =
    let bs = c.args.blocks.now.items in
    shape-set bs c.args.block c.remove.new.self
    ∙ ap (set (shape bs) c.args.block)
    (c.remove.ensures.items
    ∙ ap (λ l. remove l c.args.at) (block_read bs c.args.block c.index_mut-block.result.now c.requires.block
    c.index_mut-block.ensures.value))
