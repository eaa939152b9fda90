-- What is encrypted is an encryption of the message.
use Rattle.std.proofs.Common.{◌≡◌, inr, ℕ, ◌+◌, ◌-◌, ◌^◌, ◌<◌, ◌≤◌, List, [], ◌∷◌, ◌++◌, length, drop, refl, sym, ap}
use Rattle.std.proofs.Common.{ap₂, subst, ◌∙◌, arith, append_assoc}
use Rattle.std.proofs.lemmas.List.{length-append, drop_at}
use Rattle.memberlist_cipher.specs.Block.{cipher, aes}
use Rattle.memberlist_cipher.specs.Gcm.{ctr, tag}
use Rattle.memberlist_cipher.specs.Encryption.{IsKey, MayEncrypt, MayEncryptStream, sealed, encrypted, Encryption, head}
use Rattle.memberlist_cipher.specs.Encryption.{encrypted_stream, StreamEncryption}
use Rattle.memberlist_cipher.proofs.Causes.{length-head}
use Rattle.memberlist_cipher.proofs.Refusing.{length-tag}
use Rattle.memberlist_cipher.proofs.Sealing.{good_sizes}
use Rattle.memberlist_cipher.proofs.Twice.{length-ctr}

-- an encryption whose parts were appended one after another
pub parts_are : (key nonce aad message old w a b c d ciphertext tag_bytes : List ℕ) (n start : ℕ) → cipher w n ≡ aes key → a ≡ old ++ 1 ∷ []
    → b ≡ a ++ nonce → start ≡ length b → c ≡ b ++ ctr (cipher w n) nonce message → ciphertext ≡ drop start c
    → tag_bytes ≡ tag (cipher w n) nonce aad ciphertext → d ≡ c ++ tag_bytes → d ≡ old ++ encrypted key nonce aad message
unfolding encrypted sealed
parts_are key nonce aad message old w a b c d ciphertext tag_bytes n start under first second place third back tagged last =
    let text = ctr (aes key) nonce message in
    let t = tag (aes key) nonce aad text in
    let so_far : c ≡ b ++ text = third ∙ ap (λ (f : List ℕ → List ℕ). b ++ ctr f nonce message) under in
    let behind : ciphertext ≡ text = back ∙ ap (drop start) so_far ∙ drop_at b text start (sym place) in
    let is : tag_bytes ≡ t = tagged ∙ ap₂ (λ (f : List ℕ → List ℕ) (x : List ℕ). tag f nonce aad x) under behind in
    let front : b ≡ (old ++ 1 ∷ []) ++ nonce = second ∙ ap (λ (x : List ℕ). x ++ nonce) first in
    last ∙ ap₂ ◌++◌ so_far is ∙ append_assoc b text t ∙ ap (λ (x : List ℕ). x ++ (text ++ t)) front
    ∙ append_assoc (old ++ 1 ∷ []) nonce (text ++ t) ∙ append_assoc old (1 ∷ []) (nonce ++ (text ++ t))

pub length-encrypted : (key nonce aad message : List ℕ) → IsKey key → length nonce ≡ 12
    → length (encrypted key nonce aad message) ≡ 29 + length message
unfolding encrypted sealed
length-encrypted key nonce aad message good size =
    let text = ctr (aes key) nonce message in
    let t = tag (aes key) nonce aad text in
    omega (
      arith,
      size,
      length-append nonce (text ++ t),
      length-append text t,
      length-ctr (aes key) (good_sizes key good) nonce message,
      length-tag (aes key) (good_sizes key good) nonce aad text,
    )

pub is_encryption : (key nonce aad bytes message : List ℕ) → IsKey key → length nonce ≡ 12 → MayEncrypt aad message
    → bytes ≡ encrypted key nonce aad message → Encryption key aad bytes message
unfolding encrypted
is_encryption key nonce aad bytes message good size may is = record {
  good_key = good;
  within = (omega (arith, may.0, ap length is, length-encrypted key nonce aad message good size), may.1);
  nonce = nonce;
  nonce_size = size;
  text = inr is;
}

pub is_stream_encryption : (key nonce label bytes message : List ℕ) → IsKey key → length nonce ≡ 12 → MayEncryptStream label message
    → bytes ≡ encrypted_stream key nonce label message → StreamEncryption key label bytes message
unfolding encrypted_stream
is_stream_encryption key nonce label bytes message good size may is =
    let h = head (29 + length message) in
    let ciphertext = encrypted key nonce (h ++ label) message in
    let len : 29 + length message ≡ length ciphertext = sym (length-encrypted key nonce (h ++ label) message good size) in
    let fits : length (h ++ label) < 2 ^ 61 = omega (arith, may.1, length-append h label, length-head (29 + length message)) in
    let short : length message ≤ 2 ^ 36 - 32 = omega (arith, may.0) in
    let P : ℕ → Type 0 = λ n. Encryption key (head n ++ label) ciphertext message in
    record {
      ciphertext = ciphertext;
      stream = record { few = omega (arith, may.0, len); text = is ∙ ap (λ (n : ℕ). head n ++ ciphertext) len };
      encryption = subst P len (is_encryption key nonce (h ++ label) ciphertext message good size (short, fits) refl);
    }

-- a stream whose parts were appended one after another
pub stream_is : (key nonce label message start h aad view a d : List ℕ) → start ≡ [] → h ≡ head (29 + length message) → a ≡ start ++ h
    → aad ≡ h ++ label → view ≡ aad → d ≡ a ++ encrypted key nonce view message → d ≡ encrypted_stream key nonce label message
unfolding encrypted_stream
stream_is key nonce label message start h aad view a d none top front extra same last =
    let hd = head (29 + length message) in
    let first : a ≡ hd = front ∙ ap₂ ◌++◌ none top in
    let labelled : view ≡ hd ++ label = same ∙ extra ∙ ap (λ (x : List ℕ). x ++ label) top in
    last ∙ ap₂ (λ (x y : List ℕ). x ++ encrypted key nonce y message) first labelled
