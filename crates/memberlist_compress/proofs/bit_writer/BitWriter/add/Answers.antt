use Rattle.std.proofs.Common.{ap, length, arith}
use Rattle.std.proofs.lemmas.List.{length-append}
use Rattle.memberlist_wrap.specs.Bits.{bits}
use Rattle.memberlist_wrap.proofs.Polynomials.{length-bits}
use Rattle.memberlist_compress.proofs.bit_writer.BitWriter.add.Goals as goal

pub loop-byte-smaller : goal.loop-byte-smaller
loop-byte-smaller c =
    omega (
      arith,
      ap length c.in-Some.ensures,
      length-append (bits 8 c.in-Some.byte) c.take_byte.new.self,
      length-bits 8 c.in-Some.byte,
    )
