use Rattle.memberlist_wrap.proofs.Weakening.{IfErr-weaker}
use Rattle.memberlist_wrap.proofs.OneLzw.{no_lzw, no_lzw_within}
use Rattle.memberlist_wrap.proofs.lzw.lzw_decode.Goals as goal

pub returns-clause-limits : goal.returns-clause-limits
returns-clause-limits c = IfErr-weaker c.read_codes.result c.read_codes.ensures.err
    (λ fault why m. no_lzw_within c.args.limit fault c.args.bytes.now (why m))

pub returns-clause-refuses : goal.returns-clause-refuses
returns-clause-refuses c =
    IfErr-weaker c.read_codes.result c.read_codes.ensures.err
    (λ fault why m other. no_lzw c.args.limit fault c.args.bytes.now (why m) other)
