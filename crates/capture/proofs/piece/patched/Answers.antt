use Rattle.std.proofs.Common.{◌≡◌, ◌+◌, arith}
use Rattle.capture.specs.Flows.{placed}
use Rattle.capture.proofs.Covering.{covers_yes}
use Rattle.capture.proofs.Saying.{covered_by}
use Rattle.capture.proofs.piece.patched.Goals as goal

pub unreachable-requires : goal.unreachable-requires
unreachable-requires c =
    let k = c.args.here + c.len-in-loop-found.result in
    let seg = placed c.args.at c.args.bytes.now in
    let same : c.len.result ≡ c.len-in-loop-found.result = omega (arith, c.len.ensures, c.len-in-loop-found.ensures) in
    let on = covers_yes k seg (omega (arith, c.requires.begun)) (omega (arith, c.loop-found-test.true, same, c.requires.inside)) in
    covered_by k c.args.pieces.now seg on c.in-None.ensures.none
