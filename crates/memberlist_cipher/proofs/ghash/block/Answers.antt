use Rattle.std.proofs.Common.{◌∙◌}
use Rattle.memberlist_cipher.specs.Gcm.{block}
use Rattle.memberlist_cipher.proofs.Polys.{first_block}
use Rattle.memberlist_cipher.proofs.ghash.block.Goals as goal

pub returns-else-bytes-lt16 : goal.returns-else-bytes-lt16
unfolding block
returns-else-bytes-lt16 c = c.from_be_bytes.ensures ∙ first_block c.args.bytes.now
