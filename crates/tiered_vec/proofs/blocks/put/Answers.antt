use Rattle.std.proofs.Common.{◌∙◌, ap, set}
use Rattle.std.specs.List.{insert}
use Rattle.tiered_vec.specs.Sound.{shape}
use Rattle.tiered_vec.proofs.Shapes.{shape-set, block_read}
use Rattle.tiered_vec.proofs.blocks.put.Goals as goal

pub returns-clause-shape : goal.returns-clause-shape
returns-clause-shape g c =
    let bs = c.args.blocks.now.items in
    shape-set bs c.args.block c.insert.new.self
    ∙ ap (set (shape bs) c.args.block)
    (c.in-Ok.ensures.items
    ∙ ap (λ l. insert l c.args.at c.args.x)
    (block_read bs c.args.block c.index_mut-block.result.now c.requires.block
    c.index_mut-block.ensures.value))
