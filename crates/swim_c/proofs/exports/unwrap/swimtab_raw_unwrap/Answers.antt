use Rattle.std.proofs.Common.{rules}
use Rattle.swim_c.specs.Unwrapping.{PacketUnwrapped, GivesMessage, Lacks}
use Rattle.swim_c.proofs.Unwrappings.{without_keys, with_keys}
use Rattle.swim_c.proofs.exports.unwrap.swimtab_raw_unwrap.Goals as goal

pub returns-in_default-clause-unwraps : goal.returns-in_default-clause-unwraps
returns-in_default-clause-unwraps c =
    without_keys
    (λ keys. PacketUnwrapped keys c.args.packet.now
    (GivesMessage c.args.out.now c.unwrap_out.new.out c.unwrap_out.result.status c.unwrap_out.result.kind c.unwrap_out.result.len)
    (Lacks c.args.out.now c.unwrap_out.new.out c.unwrap_out.result.status c.unwrap_out.result.kind c.unwrap_out.result.len))
    c.args.keyring.now.keys c.none.result c.in_default.ensures.taken c.none.ensures c.unwrap_out.ensures

pub returns-clause-unwraps : goal.returns-clause-unwraps
returns-clause-unwraps c =
    with_keys
    (λ keys. PacketUnwrapped keys c.args.packet.now
    (GivesMessage c.args.out.now c.unwrap_out-unwrapped.new.out c.unwrap_out-unwrapped.result.status
    c.unwrap_out-unwrapped.result.kind c.unwrap_out-unwrapped.result.len)
    (Lacks c.args.out.now c.unwrap_out-unwrapped.new.out c.unwrap_out-unwrapped.result.status
    c.unwrap_out-unwrapped.result.kind c.unwrap_out-unwrapped.result.len))
    c.args.keyring.now.keys c.deref.result.now (search rules) c.unwrap_out-unwrapped.ensures
