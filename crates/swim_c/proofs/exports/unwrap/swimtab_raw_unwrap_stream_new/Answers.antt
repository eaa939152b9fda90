use Rattle.std.proofs.Common.{rules}
use Rattle.swim_c.specs.Unwrapping.{StreamUnwrapped, GivesNewMessage, LacksNew}
use Rattle.swim_c.proofs.Unwrappings.{without_keys, with_keys}
use Rattle.swim_c.proofs.exports.unwrap.swimtab_raw_unwrap_stream_new.Goals as goal

pub returns-in_default-clause-unwraps : goal.returns-in_default-clause-unwraps
returns-in_default-clause-unwraps c =
    without_keys
    (λ keys. StreamUnwrapped keys c.args.label.now c.args.stream.now
    (GivesNewMessage c.args.buffer.now c.unwrap_stream_new.new.buffer c.unwrap_stream_new.result.status c.unwrap_stream_new.result.kind)
    (LacksNew c.args.buffer.now c.unwrap_stream_new.new.buffer c.unwrap_stream_new.result.status c.unwrap_stream_new.result.kind))
    c.args.keyring.now.keys c.none.result c.in_default.ensures.taken c.none.ensures c.unwrap_stream_new.ensures

pub returns-clause-unwraps : goal.returns-clause-unwraps
returns-clause-unwraps c =
    with_keys
    (λ keys. StreamUnwrapped keys c.args.label.now c.args.stream.now
    (GivesNewMessage c.args.buffer.now c.unwrap_stream_new-unwrapped.new.buffer
    c.unwrap_stream_new-unwrapped.result.status c.unwrap_stream_new-unwrapped.result.kind)
    (LacksNew c.args.buffer.now c.unwrap_stream_new-unwrapped.new.buffer
    c.unwrap_stream_new-unwrapped.result.status c.unwrap_stream_new-unwrapped.result.kind))
    c.args.keyring.now.keys c.deref.result.now (search rules) c.unwrap_stream_new-unwrapped.ensures
