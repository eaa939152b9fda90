use Rattle.std.proofs.Common.{◌∙◌, arith}
use Rattle.swim_wire.specs.Layout.{state_layout}
use Rattle.swim_wire.specs.Message.{slots_of_state}
use Rattle.swim_wire.specs.Reading.{map_at, record_at, record_of, state_at, state_of}
use Rattle.swim_wire.proofs.Asking.{fault_exits, read_asks}
use Rattle.swim_wire.proofs.Claimed.{claim_answered, record_check, record_said, state_check, state_said}
use Rattle.swim_wire.proofs.Keys.{state_legal}
use Rattle.swim_wire.proofs.WholeReads.{Reads-exits, Reads-checked, Reads-viewed}
use Rattle.swim_wire.proofs.state_record.read_whole_record.Goals as goal

pub returns-in_err-values-clause-exact : goal.returns-in_err-values-clause-exact
unfolding record_at
returns-in_err-values-clause-exact g c = Reads-exits _ _ c.from_residual.ensures.1 c.in_err-values.ensures.exact

pub returns-in_err-values-clause-claim : goal.returns-in_err-values-clause-claim
unfolding state_at
returns-in_err-values-clause-claim g c = Reads-exits _ _ c.from_residual.ensures.1 c.in_err-values.ensures.exact

pub returns-clause-exact : goal.returns-clause-exact
unfolding record_at
returns-clause-exact g c =
    Reads-checked (map_at state_layout) record_of (slots_of_state c.new.result) _
    (record_said _ _ c.new.ensures.says) (record_check (slots_of_state c.new.result))
    c.record_of_state.ensures.answers c.in_ok-values.ensures.exact

pub returns-clause-claim : goal.returns-clause-claim
unfolding state_at
returns-clause-claim g c =
    Reads-viewed (λ read. read.claim) (map_at state_layout) state_of (slots_of_state c.new.result) _ (state_said _ _ c.new.ensures.says)
    (state_check (slots_of_state c.new.result)) (claim_answered (slots_of_state c.new.result) _ c.record_of_state.ensures.answers)
    c.in_ok-values.ensures.exact

pub returns-in_err-values-clause-memory : goal.returns-in_err-values-clause-memory
returns-in_err-values-clause-memory g c = fault_exits _ c.from_residual.ensures.1 c.in_err-values.ensures.memory

pub returns-clause-memory : goal.returns-clause-memory
returns-clause-memory g c = λ is.
    read_asks state_layout 3 state_legal (omega arith) c.in_ok-values.ensures.exact
    (λ none. c.record_of_state.ensures.memory is (c.new.ensures.says.name ∙ none))
