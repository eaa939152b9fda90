use Rattle.std.proofs.Common.{ap, ◌∙◌}
use Rattle.memberlist_cipher.specs.Gcm.{times_x}
use Rattle.memberlist_cipher.specs.Products.{shifted}
use Rattle.memberlist_cipher.proofs.ghash.times_x_4.Goals as goal

pub returns : goal.returns
unfolding shifted
returns c =
    c.times_x-4.ensures ∙ ap times_x (c.times_x-3.ensures ∙ ap times_x (c.times_x-2.ensures ∙ ap times_x c.times_x.ensures))
