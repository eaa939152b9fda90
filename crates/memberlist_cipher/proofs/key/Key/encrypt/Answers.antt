use Rattle.std.proofs.Common.{List, ℕ, ◌++◌, ◌∙◌, ap}
use Rattle.memberlist_cipher.specs.Encryption.{encrypted}
use Rattle.memberlist_cipher.proofs.Encrypting.{is_encryption}
use Rattle.memberlist_cipher.proofs.key.Key.encrypt.Goals as goal

pub returns-clause-encrypts : goal.returns-clause-encrypts
returns-clause-encrypts c =
    is_encryption c.args.self.now c.args.nonce.now c.args.aad.now _ c.args.message.now c.append_encrypted.ensures.good_key c.told-nonce
    c.if-not-may_encrypt.ensures
    (c.append_encrypted.ensures.items
    ∙ ap (λ (x : List ℕ). x ++ encrypted c.args.self.now c.args.nonce.now c.args.aad.now c.args.message.now) c.in_ok-bytes.ensures.items)
