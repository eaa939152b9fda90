use Rattle.swim_c.proofs.BehindOneAnother.{ReadTo}
use Rattle.swim_c.proofs.compound.read_packets.Given as goal

abbrev pub invariant-loop-len : goal.invariant-loop-len
invariant-loop-len l = ReadTo l.lens l.bytes l.len-index l.packets.items l.rest
