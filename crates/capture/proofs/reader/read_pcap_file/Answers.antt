use Rattle.std.proofs.lemmas.Result.{err_from_is_err_and}
use Rattle.swim_pack.proofs.Composing.{Reads-exit, Reads-then}
use Rattle.swim_pack.proofs.Composing.{Reads-gives}
use Rattle.swim_pack.specs.Composing.{same}
use Rattle.capture.specs.Captures.{pcap_file}
use Rattle.capture.proofs.reader.read_pcap_file.Goals as goal

pub returns-in_err-file : goal.returns-in_err-file
unfolding pcap_file
returns-in_err-file g c =
    let p = err_from_is_err_and c.from_residual.result c.from_residual.ensures.1 in
    rw (p.1, p.2) (Reads-exit _ c.in_err-file.ensures)

pub returns : goal.returns
unfolding pcap_file
returns g c =
    (Reads-then _ c.in_ok-file.ensures (Reads-gives {view = same} _))
