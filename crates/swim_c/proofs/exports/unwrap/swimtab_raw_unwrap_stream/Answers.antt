use Rattle.std.proofs.Common.{rules}
use Rattle.swim_c.specs.Unwrapping.{StreamUnwrapped, GivesMessage, Lacks}
use Rattle.swim_c.proofs.Unwrappings.{without_keys, with_keys}
use Rattle.swim_c.proofs.exports.unwrap.swimtab_raw_unwrap_stream.Goals as goal

pub returns-in_default-clause-unwraps : goal.returns-in_default-clause-unwraps
returns-in_default-clause-unwraps c =
    without_keys
    (λ keys. StreamUnwrapped keys c.args.label.now c.args.stream.now
    (GivesMessage c.args.out.now c.unwrap_stream_out.new.out c.unwrap_stream_out.result.status
    c.unwrap_stream_out.result.kind c.unwrap_stream_out.result.len)
    (Lacks c.args.out.now c.unwrap_stream_out.new.out c.unwrap_stream_out.result.status
    c.unwrap_stream_out.result.kind c.unwrap_stream_out.result.len))
    c.args.keyring.now.keys c.none.result c.in_default.ensures.taken c.none.ensures c.unwrap_stream_out.ensures

pub returns-clause-unwraps : goal.returns-clause-unwraps
returns-clause-unwraps c =
    with_keys
    (λ keys. StreamUnwrapped keys c.args.label.now c.args.stream.now
    (GivesMessage c.args.out.now c.unwrap_stream_out-unwrapped.new.out
    c.unwrap_stream_out-unwrapped.result.status c.unwrap_stream_out-unwrapped.result.kind
    c.unwrap_stream_out-unwrapped.result.len)
    (Lacks c.args.out.now c.unwrap_stream_out-unwrapped.new.out c.unwrap_stream_out-unwrapped.result.status
    c.unwrap_stream_out-unwrapped.result.kind c.unwrap_stream_out-unwrapped.result.len))
    c.args.keyring.now.keys c.deref.result.now (search rules) c.unwrap_stream_out-unwrapped.ensures
