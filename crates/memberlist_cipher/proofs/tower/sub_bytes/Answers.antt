use Rattle.std.proofs.Common.{ℕ, List, map, replicate, bit_xor, ap, ◌∙◌}
use lib.Lanes.{zip2}
use Rattle.memberlist_cipher.specs.Tower.{plain}
use Rattle.memberlist_cipher.proofs.Rounds.{sub_is}
use Rattle.memberlist_cipher.proofs.tower.sub_bytes.Goals as goal

pub returns : goal.returns
returns c =
    ap (λ (l : List ℕ). zip2 bit_xor l (replicate 16 0x63)) (c.substituted.ensures ∙ ap (map plain) c.to_tower.ensures)
    ∙ sub_is c.args.bytes c.fits-bytes.0 c.fits-bytes.1
