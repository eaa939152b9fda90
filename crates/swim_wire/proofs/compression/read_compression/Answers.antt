use Rattle.std.proofs.lemmas.Result.{err_from_is_err_and}
use Rattle.swim_pack.proofs.Composing.{Reads-exit}
use Rattle.swim_wire.specs.Compression.{compression_layout, compression_at}
use Rattle.swim_wire.specs.Reading.{map_at, raw_in}
use Rattle.swim_wire.proofs.Compressions.{Reads-shown}
use Rattle.swim_wire.proofs.compression.read_compression.Goals as goal

pub returns-in_err-read_map : goal.returns-in_err-read_map
unfolding compression_at
returns-in_err-read_map g c =
    let p = err_from_is_err_and c.from_residual.result c.from_residual.ensures.1 in
    rw (p.1, p.2) (Reads-exit _ c.in_err-read_map.ensures.exact)

pub returns : goal.returns
unfolding compression_at
returns g c =
    Reads-shown (λ packed. packed.items) (map_at (compression_layout c.args.limit)) (λ slots. raw_in slots 1) c.packed_of.result
    c.packed_of.ensures c.in_ok-read_map.ensures.exact
