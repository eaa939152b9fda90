use Rattle.std.proofs.Common.{ℕ, List, ◌++◌, take, drop, ap, ◌∙◌}
use Rattle.memberlist_cipher.specs.Block.{plus_bytes, cipher}
use Rattle.memberlist_cipher.proofs.Hashes.{four_parts, tail_is}
use Rattle.memberlist_cipher.proofs.ctr.append_four.Goals as goal

pub returns-clause-items : goal.returns-clause-items
returns-clause-items c =
    let f = cipher c.args.words.now c.args.count in
    let bytes = c.args.bytes.now in
    let masks = c.cipher_four-masks.ensures in
    let more = λ (s : List ℕ) (t : List ℕ). t ++ s in
    c.append_block-4.ensures.items
    ∙ ap (more _) (c.append_block-3.ensures.items
    ∙ ap (more _) (c.append_block-2.ensures.items ∙ ap (more _) c.append_block.ensures.items))
    ∙ four_parts f c.args.nonce.now c.args.counter bytes c.args.to.now.items _ _ _ _
    (ap (plus_bytes (take 16 bytes)) (masks.first ∙ ap f c.counter_block-first.ensures))
    (ap (λ (bs : List ℕ). plus_bytes (take 16 bs) c.cipher_four-masks.result.1) (tail_is 16 bytes)
    ∙ ap (plus_bytes (take 16 (drop 16 bytes))) (masks.second ∙ ap f c.counter_block-second.ensures))
    (ap (λ (bs : List ℕ). plus_bytes (take 16 bs) c.cipher_four-masks.result.2) (tail_is 32 bytes)
    ∙ ap (plus_bytes (take 16 (drop 32 bytes))) (masks.third ∙ ap f c.counter_block-third.ensures))
    (ap (λ (bs : List ℕ). plus_bytes (take 16 bs) c.cipher_four-masks.result.3) (tail_is 48 bytes)
    ∙ ap (plus_bytes (take 16 (drop 48 bytes))) (masks.fourth ∙ ap f c.counter_block-fourth.ensures))
