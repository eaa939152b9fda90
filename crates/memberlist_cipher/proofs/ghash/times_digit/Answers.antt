use Rattle.memberlist_cipher.proofs.Products.{four_steps}
use Rattle.memberlist_cipher.proofs.ghash.times_digit.Goals as goal

pub returns : goal.returns
returns c =
    four_steps c.args.digit c.args.v _ _ _ _ _ _ _ c.times_x-second.ensures c.times_x-third.ensures c.times_x-fourth.ensures
    c.plus_at-one.ensures c.plus_at-two.ensures c.plus_at-three.ensures c.plus_at.ensures
