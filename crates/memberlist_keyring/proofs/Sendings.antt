-- What is sent is decrypted under the first key.
use Rattle.std.proofs.Common.{◌≡◌, ◌≢◌, ℕ, ◌<◌, List, [], ◌∷◌, ◌++◌, length, drop, get_or, inl, inr, refl, sym, ap, ◌∙◌, arith}
use Rattle.std.proofs.lemmas.List.{drop_more}
use Rattle.memberlist_cipher.specs.Encryption.{Encryption, StreamEncryption}
use Rattle.memberlist_cipher.specs.Label.{IsLabelled}
use Rattle.memberlist_keyring.specs.Opening.{IsFirst, OpensFirst, OpensStreamFirst, OpensReplyFirst}
use Rattle.memberlist_keyring.specs.Sending.{SendsFirst}

-- the first of the keys decrypts it
IsFirst-head : (Opened : List ℕ → List ℕ → Type 0) (keys : List (List ℕ)) (key : List ℕ) (others : List (List ℕ)) (message : List ℕ)
    → keys ≡ key ∷ others → Opened key message → IsFirst Opened keys message
IsFirst-head Opened keys key others message parts opened = record {
  before = [];
  key = key;
  after = others;
  parts = parts;
  earlier = λ k c m. absurd (omega (arith, c.1));
  opened = opened;
}

pub opens_first : (keys : List (List ℕ)) (key : List ℕ) (others : List (List ℕ)) (label bytes text message : List ℕ) → keys ≡ key ∷ others
    → IsLabelled text label bytes → Encryption key label bytes message → OpensFirst keys text message
opens_first keys key others label bytes text message parts labelled e = record {
  label = label;
  rest = bytes;
  labelled = labelled;
  first = IsFirst-head (λ k m. Encryption k label bytes m) keys key others message parts e;
}

pub opens_stream_first : (keys : List (List ℕ)) (key : List ℕ) (others : List (List ℕ))
    (label bytes text message : List ℕ) → keys ≡ key ∷ others
    → IsLabelled text label bytes → StreamEncryption key label bytes message → OpensStreamFirst keys text message
opens_stream_first keys key others label bytes text message parts labelled e = record {
  label = label;
  rest = bytes;
  labelled = labelled;
  first = IsFirst-head (λ k m. StreamEncryption k label bytes m) keys key others message parts e;
}

-- the key that is read is the first of them
pub first_is : (seen keys : List (List ℕ)) (key : List ℕ) → seen ≡ keys → 0 < length seen
    → key ≡ get_or seen 0 key → keys ≡ key ∷ drop 1 seen
first_is seen keys key same some read = sym same ∙ drop_more seen 0 key some ∙ ap (λ (k : List ℕ). k ∷ drop 1 seen) (sym read)

-- ---- a reply, without a label before it

-- what is made with the first of the keys, and does not start with a label, is sent bare
pub sends_bare : (made : List ℕ → List ℕ) (keys : List (List ℕ)) (key : List ℕ) (others : List (List ℕ))
    (bytes : List ℕ) → keys ≡ key ∷ others
    → bytes ≡ made key → ((more : List ℕ) → bytes ≢ 244 ∷ more) → SendsFirst made keys [] bytes
sends_bare made keys key others bytes parts is bare = record {
  key = key;
  others = others;
  first = parts;
  labelled = inl (refl, is, bare);
}

-- a label goes before bytes that do not start with one
behind : (label bytes : List ℕ) → ((more : List ℕ) → bytes ≢ 244 ∷ more) → (text : List ℕ) × IsLabelled text label bytes
behind [] bytes bare = (bytes, inl (refl, refl, bare))
behind (first ∷ others) bytes bare =
    (244 ∷ length (first ∷ others) ∷ (first ∷ others) ++ bytes, inr (omega arith, refl))

pub opens_reply_first : (keys : List (List ℕ)) (key : List ℕ) (others : List (List ℕ)) (label bytes message : List ℕ) → keys ≡ key ∷ others
    → ((more : List ℕ) → bytes ≢ 244 ∷ more) → StreamEncryption key label bytes message → OpensReplyFirst keys label bytes message
opens_reply_first keys key others label bytes message parts bare e =
    let text = behind label bytes bare in
    (text.0, text.1, opens_stream_first keys key others label bytes text.0 message parts text.1 e)
