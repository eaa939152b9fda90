use Rattle.std.proofs.Common.{◌≡◌, length, map, sym, ap, ◌∙◌, arith}
use Rattle.memberlist_cipher.specs.Field.{sub}
use Rattle.memberlist_cipher.proofs.Sixteen.{four, each4}
use Rattle.memberlist_cipher.proofs.schedule.sub_word.Goals as goal

pub returns : goal.returns
returns c =
    let size : length c.args.word ≡ 4 = omega arith in
    ap each4 c.sub_bytes.ensures ∙ sym (ap (map sub) (four c.args.word size))
