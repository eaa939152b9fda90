use Rattle.std.proofs.Common.{◌≡◌, ◌++◌, length, sym, ap, ap₂, ◌∙◌, arith}
use Rattle.memberlist_cipher.specs.Gcm.{counter_block}
use Rattle.memberlist_cipher.proofs.Sixteen.{twelve, four}
use Rattle.memberlist_cipher.proofs.ctr.counter_block.Goals as goal

pub returns : goal.returns
unfolding counter_block
returns c =
    let d = c.to_be_bytes-digits.result in
    let size : length d ≡ 4 = omega arith in
    sym (ap₂ ◌++◌ (twelve c.args.nonce.now c.requires) (four d size)) ∙ ap (λ x. c.args.nonce.now ++ x) c.to_be_bytes-digits.ensures
