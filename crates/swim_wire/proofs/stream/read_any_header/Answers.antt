use Rattle.std.proofs.Common.{inl}
use Rattle.swim_pack.proofs.Composing.{Reads-then}
use Rattle.swim_wire.specs.Message.{slots_of_header}
use Rattle.swim_wire.specs.Reading.{header_at, header_of}
use Rattle.swim_wire.proofs.Claimed.{header_check, header_said, no_memory}
use Rattle.swim_wire.proofs.WholeReads.{Reads-exits, Reads-checked}
use Rattle.swim_wire.proofs.stream.read_any_header.Goals as goal

pub returns-in_err-found-clause-exact : goal.returns-in_err-found-clause-exact
unfolding header_at
returns-in_err-found-clause-exact g c = Reads-exits _ _ c.from_residual.ensures.1 c.in_err-found.ensures.exact

pub returns-in_err-values-clause-exact : goal.returns-in_err-values-clause-exact
unfolding header_at
returns-in_err-values-clause-exact g c =
    Reads-then _ c.in_ok-found.ensures.exact (Reads-exits _ _ c.from_residual-in_err-values.ensures.1 c.in_err-values.ensures.exact)

pub returns-clause-exact : goal.returns-clause-exact
unfolding header_at
returns-clause-exact g c =
    Reads-then _ c.in_ok-found.ensures.exact
    (Reads-checked _ header_of (slots_of_header c.new.result) _ (header_said _ _ c.new.ensures)
    (header_check (slots_of_header c.new.result)) (inl c.header_of.ensures.answers)
    c.in_ok-values.ensures.exact)

pub returns-clause-no_memory : goal.returns-clause-no_memory
returns-clause-no_memory g c = no_memory _ _ (header_check (slots_of_header c.new.result)) c.header_of.ensures.answers
