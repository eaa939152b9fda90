use Rattle.std.proofs.Common.{refl}
use Rattle.memberlist_cipher.proofs.Encrypting.{is_encryption, is_stream_encryption}
use Rattle.memberlist_cipher.proofs.Once.{one_message, one_stream_message}
use Rattle.memberlist_cipher.proofs.laws.encrypted_is_opened.Goals as goal

pub returns-clause-packet : goal.returns-clause-packet
returns-clause-packet c key nonce aad message good size may =
    let e = is_encryption key nonce aad _ message good size may refl in
    (e, λ other o. one_message key aad _ other message o e)

pub returns-clause-stream : goal.returns-clause-stream
returns-clause-stream c key nonce label message good size may =
    let e = is_stream_encryption key nonce label _ message good size may refl in
    (e, λ other o. one_stream_message key label _ other message o e)
