use Rattle.memberlist_wrap.proofs.Weakening.{IfErr-weaker}
use Rattle.memberlist_wrap.proofs.Unwrapping.{no_message, no_message_at_all}
use Rattle.memberlist_wrap.proofs.wrappers.unwrap.Goals as goal

pub returns-clause-limits : goal.returns-clause-limits
returns-clause-limits c =
    IfErr-weaker c.unwrap_slice.result c.unwrap_slice.ensures.err (λ fault why m. no_message 4 c.args.limit fault c.args.bytes.now (why m))

pub returns-clause-refuses : goal.returns-clause-refuses
returns-clause-refuses c =
    IfErr-weaker c.unwrap_slice.result c.unwrap_slice.ensures.err
    (λ fault why m other shallow. no_message_at_all 4 c.args.limit fault c.args.bytes.now (why m) other shallow)
