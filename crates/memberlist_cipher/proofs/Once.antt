-- Bytes hold one message.
use Rattle.std.proofs.Common.{◌≡◌, ℕ, ◌-◌, ◌%◌, inl, inr, List, ◌++◌, length, get_or, sym, ap, ap₂, ◌∙◌, arith}
use Rattle.std.proofs.Math.ListN.{replicate}
use Rattle.std.proofs.lemmas.Bool.{cases_lt}
use Rattle.memberlist_cipher.specs.Block.{aes}
use Rattle.memberlist_cipher.specs.Gcm.{ctr}
use Rattle.memberlist_cipher.specs.Encryption.{padded, head, Encryption, StreamEncryption}
use Rattle.memberlist_cipher.proofs.Sealing.{good_sizes, pad_length, pad_last}
use Rattle.memberlist_cipher.proofs.Refusing.{append_split, length-tag, made, cut_once}
use Rattle.memberlist_cipher.proofs.Causes.{one_inner, encryption_along}

pub pad_once : (a b : List ℕ) → padded a ≡ padded b → a ≡ b
unfolding padded
pad_once a b e =
    let whole : length (padded a) ≡ length (padded b) = ap length e in
    let last = sym (pad_last a) ∙ ap (λ (xs : List ℕ). get_or xs (length xs - 1) 0) e ∙ pad_last b in
    let size : length a ≡ length b = omega (arith, whole, last, pad_length a, pad_length b) in
    (append_split a b (replicate (16 - length a % 16) (16 - length a % 16)) (replicate (16 - length b % 16) (16 - length b % 16)) size e).0

pub one_message : (key aad bytes x y : List ℕ) → Encryption key aad bytes x → Encryption key aad bytes y → x ≡ y
one_message key aad bytes x y a b =
    let sizes = good_sizes key a.good_key in
    let p = made key aad bytes x sizes a in
    let q = made key aad bytes y sizes b in
    let one = cut_once p.version q.version p.nonce q.nonce p.ciphertext q.ciphertext _ _ p.size q.size
    (length-tag (aes key) sizes p.nonce aad p.ciphertext) (length-tag (aes key) sizes q.nonce aad q.ciphertext) (sym p.text ∙ q.text) in
    let same : ctr (aes key) p.nonce p.ciphertext ≡ ctr (aes key) q.nonce q.ciphertext = ap₂
    (λ (m n : List ℕ). ctr (aes key) m n) one.1 one.2 in
    elim (cases_lt p.version 1) [
      | inl none ↦ pad_once x y (p.is_padded (omega arith) ∙ same ∙ sym (q.is_padded (omega (arith, one.0))))
      | inr some ↦ p.is_plain (omega arith) ∙ same ∙ sym (q.is_plain (omega (arith, one.0)))
    ]

pub one_stream_message : (key label bytes x y : List ℕ) → StreamEncryption key label bytes x → StreamEncryption key label bytes y → x ≡ y
one_stream_message key label bytes x y a b =
    let same = one_inner bytes b.ciphertext a.ciphertext b.stream a.stream in
    one_message key (head (length a.ciphertext) ++ label) a.ciphertext x y a.encryption
    (encryption_along key label b.ciphertext a.ciphertext y same b.encryption)
