use Rattle.memberlist_keyring.proofs.Keys.{key_size}
use Rattle.memberlist_keyring.proofs.key.key_of.Goals as goal

pub returns-then-not-has_key_size-clause-key : goal.returns-then-not-has_key_size-clause-key
returns-then-not-has_key_size-clause-key c = λ key is. c.if-not-has_key_size.ensures (key_size c.args.text.now key is)
