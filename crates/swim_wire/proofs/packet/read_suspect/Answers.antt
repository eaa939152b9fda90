use Rattle.std.proofs.Common.{◌∙◌, arith}
use Rattle.swim_wire.specs.Layout.{accusation_layout}
use Rattle.swim_wire.specs.Message.{slots_of_accusation}
use Rattle.swim_wire.specs.Reading.{map_at, suspect_at, suspect_of}
use Rattle.swim_wire.proofs.Asking.{fault_exits, read_asks}
use Rattle.swim_wire.proofs.Claimed.{suspect_check, suspect_said}
use Rattle.swim_wire.proofs.Keys.{accusation_legal}
use Rattle.swim_wire.proofs.WholeReads.{Reads-exits, Reads-checked}
use Rattle.swim_wire.proofs.packet.read_suspect.Goals as goal

pub returns-in_err-values-clause-exact : goal.returns-in_err-values-clause-exact
unfolding suspect_at
returns-in_err-values-clause-exact g c = Reads-exits _ _ c.from_residual.ensures.1 c.in_err-values.ensures.exact

pub returns-clause-exact : goal.returns-clause-exact
unfolding suspect_at
returns-clause-exact g c =
    Reads-checked (map_at accusation_layout) suspect_of (slots_of_accusation c.new.result) _
    (suspect_said _ _ c.new.ensures.says) (suspect_check (slots_of_accusation c.new.result))
    c.packet_of_suspect.ensures.answers c.in_ok-values.ensures.exact

pub returns-in_err-values-clause-memory : goal.returns-in_err-values-clause-memory
returns-in_err-values-clause-memory g c = fault_exits _ c.from_residual.ensures.1 c.in_err-values.ensures.memory

pub returns-clause-memory : goal.returns-clause-memory
returns-clause-memory g c = λ is.
    read_asks accusation_layout 2 accusation_legal (omega arith) c.in_ok-values.ensures.exact
    (λ none. c.packet_of_suspect.ensures.memory is (c.new.ensures.says.node ∙ none))
