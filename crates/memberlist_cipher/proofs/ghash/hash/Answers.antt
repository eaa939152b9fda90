use Rattle.std.proofs.Common.{sym, ap, ap₂, ◌∙◌, arith, bit_xor}
use Rattle.memberlist_cipher.specs.Gcm.{hash, block_product}
use Rattle.memberlist_cipher.proofs.Hashes.{hash_step, hash_end}
use Rattle.memberlist_cipher.proofs.ghash.hash.Goals as goal

pub loop-rest-preserved : goal.loop-rest-preserved
loop-rest-preserved c =
    ap₂ (hash c.args.ghash_key.now)
    (c.gf128_mul-y.ensures ∙ ap (λ b. block_product (bit_xor c.loop-rest.y b) c.args.ghash_key.now) c.block.ensures)
    c.split_block.ensures.back
    ∙ sym (hash_step c.args.ghash_key.now c.loop-rest.y c.loop-rest.rest.now (omega arith))
    ∙ c.loop-rest.invariant

pub returns : goal.returns
returns c = sym (hash_end c.args.ghash_key.now c.loop-rest.y c.loop-rest.rest.now (omega arith)) ∙ c.loop-rest.invariant
