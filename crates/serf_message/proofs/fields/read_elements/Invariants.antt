use Rattle.std.proofs.Common.{◌≡◌, drop}
use Rattle.serf_message.specs.Reading.{elements_at}
use Rattle.serf_message.specs.Values.{slots_of}
use Rattle.serf_message.proofs.fields.read_elements.Given as goal

abbrev pub invariant-loop-place : goal.invariant-loop-place
invariant-loop-place l =
    elements_at (drop l.place l.layout) l.place l.left (slots_of l.values) l.rest
    ≡ elements_at l.layout 0 l.elements (slots_of l.fn.values) l.bytes
