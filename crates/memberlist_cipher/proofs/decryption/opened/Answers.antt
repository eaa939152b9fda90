use Rattle.std.proofs.Common.{ℕ, List, IfOk, IfErr, subst}
use Rattle.std.proofs.lemmas.Result.{err_from_is_err_and}
use Rattle.memberlist_cipher.specs.Encryption.{Encryption}
use Rattle.memberlist_cipher.specs.Refusal.{PacketCause}
use Rattle.memberlist_cipher.proofs.Causes.{form_cause, layout}
use Rattle.memberlist_cipher.proofs.decryption.opened.Goals as goal

pub returns-clause-opens : goal.returns-clause-opens
returns-clause-opens c =
    let P : List ℕ → Type 0 = λ k. IfOk c.opened_under.result (λ message. Encryption k c.args.aad.now c.args.bytes.now message.items) in
    subst P c.in_ok-key.ensures c.opened_under.ensures.opens

pub returns-clause-refuses : goal.returns-clause-refuses
returns-clause-refuses c =
    let P : List ℕ → Type 0 = λ k. IfErr c.opened_under.result (λ fault. PacketCause fault k c.args.aad.now c.args.bytes.now) in
    subst P c.in_ok-key.ensures c.opened_under.ensures.refuses

pub returns-in_err-_parts-clause-refuses : goal.returns-in_err-_parts-clause-refuses
returns-in_err-_parts-clause-refuses c =
    let exit = err_from_is_err_and c.from_residual.result c.from_residual.ensures.1 in
    rw (exit.1, exit.2)
    (form_cause _ c.args.key.now c.args.aad.now c.args.bytes.now c.if-not-is_key.ensures
    c.if-not-is_within.ensures c.in_err-_parts.ensures.refuses)

pub returns-in_err-key-clause-refuses : goal.returns-in_err-key-clause-refuses
returns-in_err-key-clause-refuses c =
    let exit = err_from_is_err_and c.from_residual-in_err-key.result c.from_residual-in_err-key.ensures.1 in
    let p = c.in_ok-_parts._parts in
    let was = c.in_ok-_parts.ensures in
    rw (exit.1, exit.2) (
      c.if-not-is_key.ensures,
      c.if-not-is_within.ensures,
      layout c.args.bytes.now p.version p.nonce.now p.ciphertext.now p.tag.now was.version was.nonce was.tag was.text,
    )
