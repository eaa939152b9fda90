-- The bits are those before, and the code's.
use Rattle.std.proofs.Common.{◌≡◌, ◌++◌, length}
use Rattle.memberlist_wrap.specs.Bits.{bits, bits_of}
use Rattle.memberlist_compress.specs.Writing.{written}
use Rattle.memberlist_compress.proofs.bit_writer.BitWriter.add.Given as goal

abbrev pub invariant-loop-byte : goal.invariant-loop-byte
invariant-loop-byte l =
    bits_of l.self-inside.bytes.items ++ l.self-inside.held ≡ written l.fn.self ++ bits l.fn.width l.fn.code

abbrev pub decreases-loop-byte : goal.decreases-loop-byte
decreases-loop-byte l = length l.self-inside.held
