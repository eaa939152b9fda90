use Rattle.std.proofs.Common.{◌≡◌, ◌≤◌, ◌-◌, length}
use Rattle.serf_message.specs.Reading.{values_at, values_within}
use Rattle.serf_message.proofs.passing.after_values.Given as goal

abbrev pub invariant-loop : goal.invariant-loop
invariant-loop l = record {
  same : values_within (length l.bytes - l.counter) l.pending l.rest ≡ values_at l.count l.bytes;
  few : l.pending ≤ length l.rest;
}
