use Rattle.std.proofs.Common.{◌≡◌, [], length}
use Rattle.swim_wire.specs.Asking.{PartsAsk}
use Rattle.swim_wire.specs.Datagrams.{parts_at}
use Rattle.swim_wire.specs.Parts.{lengths_in}
use Rattle.swim_wire.proofs.datagram.decode_parts.Given as goal

abbrev pub invariant-loop-length : goal.invariant-loop-length
invariant-loop-length l =
    (parts_at (lengths_in l.initial.lengths) [] l.initial.rest ≡ parts_at (lengths_in l.lengths) l.packets.items l.rest)
    × (PartsAsk (lengths_in l.lengths) l.rest → PartsAsk (lengths_in l.initial.lengths) l.initial.rest)

abbrev pub decreases-loop-length : goal.decreases-loop-length
decreases-loop-length l = length l.lengths
