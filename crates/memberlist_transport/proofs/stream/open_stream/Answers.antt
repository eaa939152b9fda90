use Rattle.std.proofs.lemmas.Result.{IfErr-weaker}
use Rattle.memberlist_transport.proofs.Streams.{no_stream}
use Rattle.memberlist_transport.proofs.stream.open_stream.Goals as goal

pub returns-clause-refuses : goal.returns-clause-refuses
returns-clause-refuses c =
    IfErr-weaker c.stream_in.result _ _
    (λ fault h seen. no_stream c.args.limit c.args.clear c.args.keys.now c.args.bytes.now fault
    (h seen)) c.stream_in.ensures.reason
