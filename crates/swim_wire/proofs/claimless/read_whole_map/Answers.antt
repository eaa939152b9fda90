use Rattle.std.proofs.Common.{rules}
use Rattle.swim_wire.specs.Slots.{slots_of}
use Rattle.swim_wire.proofs.Fitting.{CanReadEach-some}
use Rattle.swim_wire.proofs.claimless.read_whole_map.Goals as goal

pub read_map-requires-clause-memory : goal.read_map-requires-clause-memory
read_map-requires-clause-memory c = CanReadEach-some c.args.alloc c.args.layout.now

pub returns-then-is_empty : goal.returns-then-is_empty
returns-then-is_empty c = (slots_of c.in_ok-read_map.field-0, search rules)
