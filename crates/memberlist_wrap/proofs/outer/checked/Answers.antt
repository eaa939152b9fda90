use Rattle.std.proofs.Common.{◌≡◌, ◌++◌, length, take, drop, sym, ◌∙◌, ap, arith}
use Rattle.std.proofs.lemmas.List.{length-take, take-append-drop}
use Rattle.memberlist_wrap.proofs.OneCrc.{one_crc}
use Rattle.memberlist_wrap.proofs.outer.checked.Goals as goal

pub returns-then-read_u32-crc32-clause-err : goal.returns-then-read_u32-crc32-clause-err
returns-then-read_u32-crc32-clause-err c =
    let bytes = c.args.bytes.now in
    let front : c.split_at.result.0.now ≡ take 4 bytes = c.split_at.ensures.front in
    let back : c.split_at.result.1.now ≡ drop 4 bytes = c.split_at.ensures.back in
    let whole : bytes ≡ c.split_at.result.0.now ++ c.split_at.result.1.now = rw (front, back) (sym (take-append-drop 4 bytes)) in (
      c.split_at.result.0.now,
      c.split_at.result.1.now,
      omega (arith, ap length front, length-take 4 bytes),
      whole,
      λ crc. c.if-read_u32-crc32.true (c.read_u32.ensures ∙ one_crc c.split_at.result.1.now _ c.crc32.result crc c.crc32.ensures),
    )
