use Rattle.std.proofs.Common.{◌≡◌, ap, ap₂, ◌∙◌, bit_xor}
use Rattle.std.specs.Int.{w128, to_be_bytes}
use Rattle.memberlist_cipher.specs.Block.{plus_bytes, cipher}
use Rattle.memberlist_cipher.specs.Gcm.{hash, block_product, tag, lengths}
use Rattle.memberlist_cipher.proofs.tag.tag.Goals as goal

pub returns : goal.returns
unfolding tag lengths
returns c =
    let f = cipher c.args.words.now c.args.count in
    let extra = c.args.aad.now in
    let sealed = c.args.ciphertext.now in
    let k = c.args.h.now in
    let s : c.gf128_mul-s.result ≡ block_product (bit_xor (hash k (hash k 0 extra) sealed) (lengths extra sealed)) k =
    c.gf128_mul-s.ensures ∙ ap (λ y. block_product (bit_xor y (lengths extra sealed)) k)
    (c.hash-2.ensures ∙ ap (λ y. hash k y sealed) c.hash.ensures) in
    let all = s ∙ ap (λ x. block_product (bit_xor (hash x (hash x 0 extra) sealed) (lengths extra sealed)) x) c.requires.block in
    c.plus_key.ensures
    ∙ ap₂ plus_bytes (c.to_be_bytes.ensures ∙ ap (to_be_bytes w128) all) (c.cipher-mask.ensures ∙ ap f c.counter_block.ensures)
