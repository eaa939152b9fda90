use Rattle.memberlist_cipher.proofs.Products.{times_x_by_bit}
use Rattle.memberlist_cipher.proofs.ghash.times_x.Goals as goal

pub returns : goal.returns
returns c = times_x_by_bit c.args.v
