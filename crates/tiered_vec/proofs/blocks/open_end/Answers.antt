use Rattle.std.proofs.Common.{◌∙◌, ◌++◌, ◌∷◌, [], ap, arith}
use Rattle.std.proofs.lemmas.List.{length-map}
use Rattle.tiered_vec.specs.Sound.{shape}
use Rattle.tiered_vec.specs.Tiers.{index_of}
use Rattle.tiered_vec.proofs.Flat.{opened-new}
use Rattle.tiered_vec.proofs.blocks.open_end.Goals as goal

pub returns-clause-ok : goal.returns-clause-ok
unfolding index_of
returns-clause-ok g c =
    let bs = c.args.blocks.now.items in
    opened-new (shape bs) (shape c.add_block.new.blocks.items) c.len-count.result c.requires.each
    (c.add_block.ensures.shape ∙ ap (λ xs. shape xs ++ [] ∷ []) c.in_ok-make_spares.ensures.items)
    (omega (arith, c.len-count.ensures, c.args.blocks.now.ok.0, length-map bs (λ b. b.items)))
