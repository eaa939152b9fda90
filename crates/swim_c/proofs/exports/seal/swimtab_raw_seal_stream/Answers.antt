use Rattle.std.proofs.Common.{rules}
use Rattle.std.specs.Prelude.{MatchBool}
use Rattle.swim_c.specs.Sealing.{StreamSealed, ReplySealed}
use Rattle.swim_c.proofs.Unwrappings.{without_keys, with_keys}
use Rattle.swim_c.proofs.exports.seal.swimtab_raw_seal_stream.Goals as goal

pub returns-in_default-clause-seals : goal.returns-in_default-clause-seals
returns-in_default-clause-seals c =
    without_keys
    (λ keys. MatchBool c.args.reply (ReplySealed keys.keyring c.args.nonce.now c.args.label.now
    c.args.message.now c.args.out.now c.seal_stream_out.new.out c.seal_stream_out.result.status
    c.seal_stream_out.result.len) (StreamSealed keys.keyring c.args.nonce.now c.args.label.now
    c.args.message.now c.args.out.now c.seal_stream_out.new.out c.seal_stream_out.result.status
    c.seal_stream_out.result.len))
    c.args.keyring.now.keys c.none-none.result c.in_default.ensures.taken c.none-none.ensures c.seal_stream_out.ensures

pub returns-clause-seals : goal.returns-clause-seals
returns-clause-seals c =
    with_keys (λ keys. MatchBool c.args.reply
    (ReplySealed keys.keyring c.args.nonce.now c.args.label.now c.args.message.now c.args.out.now
    c.seal_stream_out-written.new.out c.seal_stream_out-written.result.status
    c.seal_stream_out-written.result.len)
    (StreamSealed keys.keyring c.args.nonce.now c.args.label.now c.args.message.now c.args.out.now
    c.seal_stream_out-written.new.out c.seal_stream_out-written.result.status
    c.seal_stream_out-written.result.len))
    c.args.keyring.now.keys c.deref.result.now (search rules) c.seal_stream_out-written.ensures
