use Rattle.std.proofs.Common.{◌≡◌, inl, inr, ℕ, List, ◌∷◌, ◌++◌, sym, ap, ap₂, ◌∙◌, arith}
use Rattle.std.proofs.lemmas.Result.{err_from_is_err_and}
use Rattle.memberlist_cipher.specs.Gcm.{ctr, tag}
use Rattle.memberlist_cipher.proofs.Sealing.{good_sizes, seal_again}
use Rattle.memberlist_cipher.proofs.Causes.{form_cause, layout}
use Rattle.memberlist_cipher.proofs.Prepared.{known}
use Rattle.memberlist_cipher.proofs.decryption.opened_under.Goals as goal

pub overflow_sub-count : goal.overflow_sub-count
overflow_sub-count c = (known c.args.key.now _ c.as_slice-words.result.now _ c.key.view_is c.key.invariant
    c.as_slice-words.ensures.value).some

pub tag-expected-requires-clause-few : goal.tag-expected-requires-clause-few
tag-expected-requires-clause-few c = (known c.args.key.now _ c.as_slice-words.result.now _ c.key.view_is
    c.key.invariant c.as_slice-words.ensures.value).few

pub tag-expected-requires-clause-words : goal.tag-expected-requires-clause-words
tag-expected-requires-clause-words
    c = (known c.args.key.now _ c.as_slice-words.result.now _ c.key.view_is c.key.invariant
    c.as_slice-words.ensures.value).words

pub tag-expected-requires-clause-block : goal.tag-expected-requires-clause-block
tag-expected-requires-clause-block
    c = (known c.args.key.now _ c.as_slice-words.result.now _ c.key.view_is c.key.invariant
    c.as_slice-words.ensures.value).block

pub ctr-requires-clause-few : goal.ctr-requires-clause-few
ctr-requires-clause-few c = (known c.args.key.now _ c.as_slice-words.result.now _ c.key.view_is
    c.key.invariant c.as_slice-words.ensures.value).few

pub ctr-requires-clause-words : goal.ctr-requires-clause-words
ctr-requires-clause-words c = (known c.args.key.now _ c.as_slice-words.result.now _ c.key.view_is
    c.key.invariant c.as_slice-words.ensures.value).words

pub returns-then-not-is_within-clause-refuses : goal.returns-then-not-is_within-clause-refuses
returns-then-not-is_within-clause-refuses
    c = (
      (known c.args.key.now _ c.as_slice-words.result.now _ c.key.view_is c.key.invariant
          c.as_slice-words.ensures.value).good,
      c.if-not-is_within.ensures,
    )

pub returns-in_err-parts-clause-refuses : goal.returns-in_err-parts-clause-refuses
returns-in_err-parts-clause-refuses c =
    let exit = err_from_is_err_and c.from_residual.result c.from_residual.ensures.1 in
    rw (exit.1, exit.2)
    (form_cause _ c.args.key.now c.args.aad.now c.args.bytes.now
    (known c.args.key.now _ c.as_slice-words.result.now _ c.key.view_is c.key.invariant
    c.as_slice-words.ensures.value).good c.if-not-is_within.ensures c.in_err-parts.ensures.refuses)

pub returns-then-not-is_same-clause-refuses : goal.returns-then-not-is_same-clause-refuses
returns-then-not-is_same-clause-refuses c =
    let aad = c.args.aad.now in
    let p = c.in_ok-parts.parts in
    let was = c.in_ok-parts.ensures in
    let k = known c.args.key.now _ c.as_slice-words.result.now _ c.key.view_is c.key.invariant c.as_slice-words.ensures.value in
    let tagged = c.tag-expected.ensures ∙ ap (λ (f : List ℕ → List ℕ). tag f p.nonce.now aad p.ciphertext.now) k.under in (
      k.good,
      c.if-not-is_within.ensures,
      layout c.args.bytes.now p.version p.nonce.now p.ciphertext.now p.tag.now was.version was.nonce was.tag was.text,
      (λ e. c.if-not-is_same.ensures (e ∙ sym tagged)),
    )

pub returns-then-parts-eq1-clause-opens : goal.returns-then-parts-eq1-clause-opens
returns-then-parts-eq1-clause-opens c =
    let key = c.args.key.now in
    let aad = c.args.aad.now in
    let p = c.in_ok-parts.parts in
    let nonce = p.nonce.now in
    let ciphertext = p.ciphertext.now in
    let k = known c.args.key.now _ c.as_slice-words.result.now _ c.key.view_is c.key.invariant c.as_slice-words.ensures.value in
    let tagged = c.if-not-is_same.ensures ∙ c.tag-expected.ensures ∙ ap (λ (f : List ℕ → List ℕ). tag f nonce aad ciphertext) k.under in
    let plain = c.in_ok-text.ensures.bytes ∙ ap (λ (f : List ℕ → List ℕ). ctr f nonce ciphertext) k.under in
    record {
      good_key = k.good;
      within = c.if-not-is_within.ensures;
      nonce = nonce;
      nonce_size = c.in_ok-parts.ensures.nonce;
      text = inr (c.in_ok-parts.ensures.text
          ∙ ap₂ (λ (v : ℕ) (x : List ℕ). v ∷ nonce ++ x) c.if-parts-eq1.true
          (seal_again key nonce aad ciphertext p.tag.now _ (good_sizes key k.good) tagged plain));
    }

pub returns-clause-opens : goal.returns-clause-opens
returns-clause-opens c =
    let key = c.args.key.now in
    let aad = c.args.aad.now in
    let p = c.in_ok-parts.parts in
    let nonce = p.nonce.now in
    let ciphertext = p.ciphertext.now in
    let k = known c.args.key.now _ c.as_slice-words.result.now _ c.key.view_is c.key.invariant c.as_slice-words.ensures.value in
    let tagged = c.if-not-is_same.ensures ∙ c.tag-expected.ensures ∙ ap (λ (f : List ℕ → List ℕ). tag f nonce aad ciphertext) k.under in
    let plain = c.in_ok-text.ensures.bytes ∙ ap (λ (f : List ℕ → List ℕ). ctr f nonce ciphertext) k.under in
    let version : p.version ≡ 0 = omega (arith, c.in_ok-parts.ensures.version) in
    record {
      good_key = k.good;
      within = c.if-not-is_within.ensures;
      nonce = nonce;
      nonce_size = c.in_ok-parts.ensures.nonce;
      text = inl (c.in_ok-parts.ensures.text
          ∙ ap₂ (λ (v : ℕ) (x : List ℕ). v ∷ nonce ++ x) version
          (seal_again key nonce aad ciphertext p.tag.now _ (good_sizes key k.good) tagged (c.in_ok-message.ensures.ok ∙ plain)));
    }

pub returns-in_err-text-clause-refuses : goal.returns-in_err-text-clause-refuses
returns-in_err-text-clause-refuses c =
    let exit = err_from_is_err_and c.from_residual-in_err-text.result c.from_residual-in_err-text.ensures.1 in
    let p = c.in_ok-parts.parts in
    let was = c.in_ok-parts.ensures in
    rw (exit.1, exit.2) (
      (known c.args.key.now _ c.as_slice-words.result.now _ c.key.view_is c.key.invariant c.as_slice-words.ensures.value).good,
      c.if-not-is_within.ensures,
      layout c.args.bytes.now p.version p.nonce.now p.ciphertext.now p.tag.now was.version was.nonce was.tag was.text,
    )

pub returns-in_err-message-clause-refuses : goal.returns-in_err-message-clause-refuses
returns-in_err-message-clause-refuses c =
    let aad = c.args.aad.now in
    let p = c.in_ok-parts.parts in
    let was = c.in_ok-parts.ensures in
    let nonce = p.nonce.now in
    let ciphertext = p.ciphertext.now in
    let k = known c.args.key.now _ c.as_slice-words.result.now _ c.key.view_is c.key.invariant c.as_slice-words.ensures.value in
    let tagged = c.if-not-is_same.ensures ∙ c.tag-expected.ensures ∙ ap (λ (f : List ℕ → List ℕ). tag f nonce aad ciphertext) k.under in
    let plain = c.in_ok-text.ensures.bytes ∙ ap (λ (f : List ℕ → List ℕ). ctr f nonce ciphertext) k.under in
    let version : p.version ≡ 0 = omega (arith, was.version) in
    let exit = err_from_is_err_and c.from_residual-in_err-message.result c.from_residual-in_err-message.ensures.1 in
    rw (exit.1, exit.2, c.in_err-message.ensures.cause) (
      k.good,
      c.if-not-is_within.ensures,
      layout c.args.bytes.now p.version nonce ciphertext p.tag.now was.version was.nonce was.tag was.text,
      tagged,
      version,
      (λ message e. c.in_err-message.ensures.err message (e ∙ sym plain)),
    )

pub returns-in_err-text-clause-memory : goal.returns-in_err-text-clause-memory
returns-in_err-text-clause-memory c = λ is.
    let p = c.in_ok-parts.parts in
    let was = c.in_ok-parts.ensures in (
      layout c.args.bytes.now p.version p.nonce.now p.ciphertext.now p.tag.now was.version was.nonce was.tag was.text,
      c.if-not-is_same.ensures ∙ c.tag-expected.ensures
          ∙ ap (λ (f : List ℕ → List ℕ). tag f p.nonce.now c.args.aad.now p.ciphertext.now)
          (known c.args.key.now _ c.as_slice-words.result.now _ c.key.view_is c.key.invariant
          c.as_slice-words.ensures.value).under,
    )
