use Rattle.std.proofs.Common.{Bool, subst, sym}
use Rattle.std.specs.Prelude.{MatchBool}
use Rattle.swim_c.specs.Sealing.{StreamSealed, ReplySealed}
use Rattle.swim_c.proofs.sealing.seal_stream_out.Goals as goal

pub returns-then-reply : goal.returns-then-reply
returns-then-reply c =
    subst (λ (b : Bool). MatchBool b
    (ReplySealed c.args.keys.now c.args.nonce.now c.args.label.now c.args.message.now c.args.out.now
    c.reply_out.new.out c.reply_out.result.status c.reply_out.result.len)
    (StreamSealed c.args.keys.now c.args.nonce.now c.args.label.now c.args.message.now c.args.out.now
    c.reply_out.new.out c.reply_out.result.status c.reply_out.result.len))
    (sym c.if-reply.true) c.reply_out.ensures

pub returns-else-reply : goal.returns-else-reply
returns-else-reply c =
    subst (λ (b : Bool). MatchBool b
    (ReplySealed c.args.keys.now c.args.nonce.now c.args.label.now c.args.message.now c.args.out.now
    c.stream_out.new.out c.stream_out.result.status c.stream_out.result.len)
    (StreamSealed c.args.keys.now c.args.nonce.now c.args.label.now c.args.message.now c.args.out.now
    c.stream_out.new.out c.stream_out.result.status c.stream_out.result.len))
    (sym c.if-reply.false) c.stream_out.ensures
