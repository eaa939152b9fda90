-- Encrypted bytes do not start with a label.
use Rattle.std.proofs.Common.{◌≢◌, ◌∷◌, inl, inr, ℕ, List, [], get_or, refl, sym, ap, ◌∙◌, arith}
use Rattle.memberlist_cipher.specs.Encryption.{head, Encryption, StreamEncryption}
use Rattle.memberlist_cipher.specs.Label.{IsLabelled}

pub encrypted_is_bare : (key label bytes message : List ℕ) → Encryption key label bytes message → IsLabelled bytes [] bytes
encrypted_is_bare key label bytes message s = elim s.text [
  | inl e ↦ inl (refl, refl, λ more f. let first = ap (λ (b : List ℕ). get_or b 0 0) (sym e ∙ f) in omega (arith, first))
  | inr e ↦ inl (refl, refl, λ more f. let first = ap (λ (b : List ℕ). get_or b 0 0) (sym e ∙ f) in omega (arith, first))
]

pub stream_bare : (key label bytes message : List ℕ) → StreamEncryption key label bytes message → (more : List ℕ) → bytes ≢ 244 ∷ more
unfolding head
stream_bare key label bytes message s more f =
    let first = ap (λ (b : List ℕ). get_or b 0 0) (sym s.stream.text ∙ f) in omega (arith, first)

pub stream_is_bare : (key label bytes message : List ℕ) → StreamEncryption key label bytes message → IsLabelled bytes [] bytes
stream_is_bare key label bytes message s = inl (refl, refl, stream_bare key label bytes message s)
