use Rattle.std.proofs.Common.{◌≡◌, ◌-◌, ◌*◌, length, sym, ap, ◌∙◌, arith}
use Rattle.memberlist_cipher.specs.Block.{plus_bytes, word, next_word}
use Rattle.memberlist_cipher.proofs.Sixteen.{four}
use Rattle.memberlist_cipher.proofs.schedule.next_word.Goals as goal

pub returns : goal.returns
unfolding next_word plus_bytes word
returns c =
    let t = c.added-t.result in
    let old = word c.args.words.now (length c.args.words.now - 4 * c.args.key_words) in
    let size : length t ≡ 4 = omega arith in
    sym (ap (plus_bytes old) (four t size)) ∙ ap (plus_bytes old) c.added-t.ensures
