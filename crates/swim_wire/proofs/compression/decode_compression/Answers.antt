use Rattle.swim_wire.proofs.Compressions.{compression_reads, compression_refuses}
use Rattle.swim_wire.proofs.compression.decode_compression.Goals as goal

pub returns-clause-reads : goal.returns-clause-reads
returns-clause-reads c = compression_reads (λ packed. packed.items) _ c.decode_whole_compression.result c.decode_whole_compression.ensures

pub returns-clause-refuses : goal.returns-clause-refuses
returns-clause-refuses c = compression_refuses
    (λ packed. packed.items) _ c.decode_whole_compression.result c.decode_whole_compression.ensures
