use Rattle.std.proofs.Common.{sym, arith}
use Rattle.swim_wire.proofs.AtHand.{header_passed}
use Rattle.swim_wire.proofs.InOrder.{header_told}
use Rattle.swim_wire.proofs.in_order.read_header_in_order.Goals as goal

pub returns-then-pass-clause-read : goal.returns-then-pass-clause-read
returns-then-pass-clause-read g c =
    let found = c.in_ok-header.ensures in
    let reads = found.reads in
    let shorter = found.shorter in
    header_passed _ _ c.at_hand-hand.result.now c.in_ok-header.rest.now c.in-Ok.header _ c.at_hand-hand.ensures.front
    (header_told _ reads.0 _ _ c.in-Ok.header reads.1 reads.2 (sym c.in-Ok.ensures.answers))
    (omega (arith, shorter)) c.if-pass.ensures.passed
