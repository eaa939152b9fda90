-- What is known about the text of a key.
use Rattle.std.proofs.Common.{◌≡◌, inl, inr, ℕ, zero, suc, ◌+◌, ◌<◌, get_or, Bool, true, false, MatchBool, List, []}
use Rattle.std.proofs.Common.{◌∷◌, length, replicate, Ok, Err, refl, sym, ap, subst, ◌∙◌, arith}
use Rattle.std.proofs.lemmas.List.{length-append, length-replicate}
use Rattle.base64.specs.Engines.{standard}
use Rattle.base64.specs.GeneralPurpose.{IsBytes, IsConsistent, decode_of, encode_of}
use Rattle.base64.specs.Rfc4648.{encode_symbols, unpadded_len, padding_len}
use Rattle.base64.specs.declared.decode.DecodeError.{DecodeError}
use Rattle.base64.proofs.EngineFacts.{decode_of-encode_of, decode_of_strict}
use Rattle.base64.proofs.RoundTrip.{length-encode_symbols}
use Rattle.memberlist_cipher.specs.Encryption.{IsKey}
use Rattle.memberlist_keyring.specs.KeyFile.{IsKeyText, HasKeySize}

consistent : IsConsistent standard
consistent = refl

pub decoded : (text key : List ℕ) → IsKeyText text key → decode_of standard text ≡ Ok key
decoded text key k = ap (decode_of standard) k.written ∙ decode_of-encode_of standard key consistent k.bytes

-- the length of a key's base64
encoded_length : (key : List ℕ) → length (encode_of standard key) ≡ unpadded_len (length key) + padding_len (length key)
encoded_length key =
    let t = standard.encode_table in
    length-append (encode_symbols t key) (replicate (padding_len (length key)) standard.padding.value)
    ∙ ap (λ n. n + length (replicate (padding_len (length key)) standard.padding.value)) (length-encode_symbols t key)
    ∙ ap (λ n. unpadded_len (length key) + n) (length-replicate (padding_len (length key)) standard.padding.value)

pub key_size : (text key : List ℕ) → IsKeyText text key → HasKeySize text
key_size text key k =
    let size : length text ≡ unpadded_len (length key) + padding_len (length key) = ap length k.written ∙ encoded_length key in
    elim k.good [
      | inl a ↦ inl (size ∙ ap (λ n. unpadded_len n + padding_len n) a)
      | inr b ↦ elim b [
        | inl a ↦ inr (inl (size ∙ ap (λ n. unpadded_len n + padding_len n) a))
        | inr a ↦ inr (inr (size ∙ ap (λ n. unpadded_len n + padding_len n) a))
      ]
    ]

pub all_bytes : (bs : List ℕ) → ((i d : ℕ) → i < length bs → get_or bs i d < 256) → IsBytes bs
all_bytes [] h i = omega arith
all_bytes (b ∷ bs) h zero = h zero 0 (omega arith)
all_bytes (b ∷ bs) h (suc i) = all_bytes bs (λ j d within. h (suc j) d (omega arith)) i

-- what is decoded is a key, or the text is not that of a key
pub decided : (text key : List ℕ) (is : Bool) → IsBytes text → IsBytes key → decode_of standard text ≡ Ok key
    → MatchBool is (IsKey key) (¬ IsKey key) → MatchBool is (IsKeyText text key) ((k : List ℕ) → ¬ IsKeyText text k)
decided text key true tb kb e good = record { good = good; bytes = kb; written = decode_of_strict standard text key (refl, refl) tb e }
decided text key false tb kb e bad = λ k is.
    let both = sym (decoded text k is) ∙ e in
    let same : k ≡ key = cc both in
    bad (subst IsKey same is.good)

-- what cannot be decoded is not the text of a key
pub undecoded : (text : List ℕ) (error : DecodeError) → decode_of standard text ≡ Err error → (key : List ℕ) → ¬ IsKeyText text key
undecoded text error e key k = let both = sym (decoded text key k) ∙ e in cc both
