use Rattle.std.proofs.Common.{refl, arith}
use Rattle.swim_pack.proofs.Composing.{Reads-memory-first}
use Rattle.swim_wire.specs.declared.fault.WireFault.TheVariants.{Memory}
use Rattle.swim_wire.specs.Layout.{state_layout}
use Rattle.swim_wire.specs.Reading.{state_at}
use Rattle.swim_wire.proofs.Asking.{hand_asks}
use Rattle.swim_wire.proofs.AtHand.{state_passed}
use Rattle.swim_wire.proofs.Claimed.{unless_ok}
use Rattle.swim_wire.proofs.InOrder.{state_told}
use Rattle.swim_wire.proofs.Keys.{state_legal}
use Rattle.swim_wire.proofs.in_order.read_state_in_order.Goals as goal

pub returns-then-pass-clause-read : goal.returns-then-pass-clause-read
returns-then-pass-clause-read g c =
    let found = c.in_ok-state.ensures in
    let shorter = found.shorter in
    state_passed _ _ c.at_hand-hand.result.now c.in_ok-state.rest.now c.in-Ok.claim _ c.at_hand-hand.ensures.front
    (state_told _ _ _ _ found.reads (unless_ok _ _ c.in-Ok.ensures.answers)) (omega (arith, shorter)) c.if-pass.ensures.passed

pub returns-in-Err-Memory-clause-read : goal.returns-in-Err-Memory-clause-read
returns-in-Err-Memory-clause-read g c = Reads-memory-first state_at Memory refl

pub returns-in-Err-Memory-clause-memory : goal.returns-in-Err-Memory-clause-memory
returns-in-Err-Memory-clause-memory g c = λ is.
    hand_asks state_layout 3 c.at_hand-hand.result.now c.in_ok-state.rest.now _ _ state_legal (omega arith)
    c.in_ok-state.ensures.reads ((rw c.in-Err-Memory.field-0-is at c.in-Err-Memory.ensures.memory) refl) c.at_hand-hand.ensures.front
