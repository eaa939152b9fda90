use Rattle.std.proofs.Common.{rules}
use Rattle.swim_c.specs.Keyring.{KeyGiven}
use Rattle.swim_c.proofs.Unwrappings.{with_keys}
use Rattle.swim_c.proofs.exports.keyrings.swimtab_raw_keyring_key.Goals as goal

pub returns-clause-gives : goal.returns-clause-gives
returns-clause-gives c =
    with_keys (λ keys. KeyGiven keys.keyring c.args.i c.args.out.now c.key_out-written.new.out
    c.key_out-written.result.status c.key_out-written.result.len)
    c.args.keyring.now.keys c.deref.result.now (search rules) c.key_out-written.ensures
