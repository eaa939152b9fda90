use Rattle.std.proofs.Common.{ap, ◌∙◌, arith, take}
use Rattle.std.proofs.lemmas.List.{take_all}
use Rattle.memberlist_cipher.specs.Block.{plus_bytes}
use Rattle.memberlist_cipher.proofs.Rounds.{plus_is}
use Rattle.memberlist_cipher.proofs.block.plus_key.Goals as goal

pub returns : goal.returns
returns c = plus_is c.args.s (take 16 c.args.key.now) ∙ ap (plus_bytes c.args.s) (take_all 16 c.args.key.now (omega arith))
