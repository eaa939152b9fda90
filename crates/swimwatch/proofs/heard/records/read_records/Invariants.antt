use Rattle.std.proofs.Common.{◌≡◌, length}
use Rattle.swimwatch.specs.Records.{claims_in}
use Rattle.swimwatch.proofs.Prefixes.{ReadSome}
use Rattle.swimwatch.proofs.heard.records.read_records.Given as goal

abbrev pub invariant-loop-count : goal.invariant-loop-count
invariant-loop-count l = record {
  some : ReadSome l.bytes l.inlet l.header (claims_in l.records.items);
  count : length (claims_in l.records.items) ≡ l._count;
}
