use Rattle.std.proofs.Common.{◌≡◌, ◌-◌}
use Rattle.serf_message.specs.Reading.{pairs_at}
use Rattle.serf_message.specs.Values.{slots_of}
use Rattle.serf_message.proofs.fields.read_pairs.Given as goal

abbrev pub invariant-loop : goal.invariant-loop
invariant-loop l =
    pairs_at l.layout (l.pairs - l.counter) (slots_of l.values) l.rest ≡ pairs_at l.layout l.pairs (slots_of l.fn.values) l.bytes
