use Rattle.std.proofs.Common.{◌≡◌, ◌-◌, length, take, drop, ap, ◌∙◌, arith}
use Rattle.std.proofs.lemmas.List.{take-append-le, take_all, length-drop}
use Rattle.memberlist_wrap.proofs.wrappers.without_front.Goals as goal

pub returns : goal.returns
returns c =
    let bytes = c.args.bytes.items in
    let size = length-drop c.args.start bytes in
    let len : c.len.result - c.args.start ≡ length (drop c.args.start bytes) = omega (arith, c.len.ensures, c.args.bytes.ok.0, size) in
    c.truncate.ensures.items
    ∙ ap (take (c.len.result - c.args.start)) c.rotate_left.ensures.items
    ∙ take-append-le (c.len.result - c.args.start) (drop c.args.start bytes) (take c.args.start bytes) (omega (arith, len))
    ∙ take_all (c.len.result - c.args.start) (drop c.args.start bytes) (omega (arith, len))
