use Rattle.memberlist_cipher.proofs.Encrypting.{is_stream_encryption, stream_is}
use Rattle.memberlist_cipher.proofs.key.Key.encrypt_stream.Goals as goal

pub returns-clause-bytes : goal.returns-clause-bytes
returns-clause-bytes c =
    stream_is c.args.self.now c.args.nonce.now c.args.label.now c.args.message.now _ _ _ _ _ _
    c.in_ok-bytes.ensures.items c.head_of-head.ensures
    c.append.ensures.items c.in_ok-aad.ensures.bytes c.deref.ensures.value c.append_encrypted.ensures.items

pub returns-clause-encrypts : goal.returns-clause-encrypts
returns-clause-encrypts c =
    is_stream_encryption c.args.self.now c.args.nonce.now c.args.label.now _ c.args.message.now
    c.append_encrypted.ensures.good_key c.told-nonce
    c.if-not-may_encrypt_stream.ensures (returns-clause-bytes c)
