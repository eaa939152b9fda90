-- Encrypted bytes have parts in one way.
use Rattle.std.proofs.Common.{◌≡◌, ◌≢◌, ℕ, ◌<◌, inl, inr, List, [], ◌∷◌, ◌++◌, length, refl, sym, ap, ap₂, ◌∙◌, arith, length-append}
use Rattle.memberlist_cipher.specs.Block.{aes}
use Rattle.memberlist_cipher.specs.Gcm.{ctr, tag, counter_block}
use Rattle.memberlist_cipher.specs.Encryption.{sealed, padded, Encryption}
use Rattle.memberlist_cipher.proofs.Twice.{length-plus, ctr_twice}

pub append_split : (a b x y : List ℕ) → length a ≡ length b → a ++ x ≡ b ++ y → (a ≡ b) × (x ≡ y)
append_split [] [] x y size e = (refl, e)
append_split [] (q ∷ b) x y size e = absurd (omega arith)
append_split (p ∷ a) [] x y size e = absurd (omega arith)
append_split (p ∷ a) (q ∷ b) x y size e =
    let tails : a ++ x ≡ b ++ y = cc in
    let rest = append_split a b x y (omega arith) tails in
    let heads : p ≡ q = cc in
    (ap₂ (λ (z : ℕ) (zs : List ℕ). z ∷ zs) heads rest.0, rest.1)

pub length-tag : (f : List ℕ → List ℕ) → ((s : List ℕ) → length (f s) ≡ 16) → (nonce aad c : List ℕ) → length (tag f nonce aad c) ≡ 16
unfolding tag
length-tag f sizes nonce aad c = length-plus _ (f (counter_block nonce 1)) (omega (arith, sizes (counter_block nonce 1)))

-- the parts of encrypted bytes
pub record Made (key aad bytes message : List ℕ) : Type 0 where
  pub version : ℕ
  pub nonce : List ℕ
  pub ciphertext : List ℕ
  pub small : version < 2
  pub size : length nonce ≡ 12
  pub text : bytes ≡ version ∷ (nonce ++ (ciphertext ++ tag (aes key) nonce aad ciphertext))
  pub is_padded : version ≡ 0 → padded message ≡ ctr (aes key) nonce ciphertext
  pub is_plain : 0 < version → message ≡ ctr (aes key) nonce ciphertext

pub made : (key aad bytes message : List ℕ) → ((s : List ℕ) → length (aes key s) ≡ 16)
    → Encryption key aad bytes message → Made key aad bytes message
unfolding sealed
made key aad bytes message sizes s =
    elim s.text [
      | inl e ↦
          record {
            version = 0;
            nonce = s.nonce;
            ciphertext = ctr (aes key) s.nonce (padded message);
            small = omega arith;
            size = s.nonce_size;
            text = e;
            is_padded = λ _. sym (ctr_twice (aes key) sizes s.nonce (padded message));
            is_plain = λ z. absurd (omega arith);
          }
      | inr e ↦
          record {
            version = 1;
            nonce = s.nonce;
            ciphertext = ctr (aes key) s.nonce message;
            small = omega arith;
            size = s.nonce_size;
            text = e;
            is_padded = λ z. absurd (omega arith);
            is_plain = λ _. sym (ctr_twice (aes key) sizes s.nonce message);
          }
    ]

pub cut_once : (v w : ℕ) (n m c d t u : List ℕ) → length n ≡ 12 → length m ≡ 12 → length t ≡ 16 → length u ≡ 16
    → v ∷ (n ++ (c ++ t)) ≡ w ∷ (m ++ (d ++ u)) → (v ≡ w) × (n ≡ m) × (c ≡ d) × (t ≡ u)
cut_once v w n m c d t u hn hm ht hu e =
    let head : v ≡ w = cc in
    let tails : n ++ (c ++ t) ≡ m ++ (d ++ u) = cc in
    let first = append_split n m (c ++ t) (d ++ u) (omega arith) tails in
    let whole = ap length first.1 in
    let left = length-append c t in
    let right = length-append d u in
    let second = append_split c d t u (omega arith) first.1 in
    (head, first.0, second.0, second.1)

pub bad_tag : (key aad bytes message : List ℕ) → ((s : List ℕ) → length (aes key s) ≡ 16) → (v : ℕ) (n c t : List ℕ)
    → length n ≡ 12 → length t ≡ 16 → bytes ≡ v ∷ (n ++ (c ++ t)) → t ≢ tag (aes key) n aad c → ¬ Encryption key aad bytes message
bad_tag key aad bytes message sizes v n c t hn ht e wrong s =
    let x = made key aad bytes message sizes s in
    let one = cut_once v x.version n x.nonce c x.ciphertext t _ hn x.size ht
    (length-tag (aes key) sizes x.nonce aad x.ciphertext) (sym e ∙ x.text) in
    wrong (one.3 ∙ ap₂ (λ (a b : List ℕ). tag (aes key) a aad b) (sym one.1) (sym one.2))

pub bad_padding : (key aad bytes message : List ℕ) → ((s : List ℕ) → length (aes key s) ≡ 16) → (v : ℕ) (n c t : List ℕ)
    → length n ≡ 12 → length t ≡ 16 → bytes ≡ v ∷ (n ++ (c ++ t)) → v ≡ 0
    → padded message ≢ ctr (aes key) n c → ¬ Encryption key aad bytes message
bad_padding key aad bytes message sizes v n c t hn ht e none wrong s =
    let x = made key aad bytes message sizes s in
    let one = cut_once v x.version n x.nonce c x.ciphertext t _ hn x.size ht
    (length-tag (aes key) sizes x.nonce aad x.ciphertext) (sym e ∙ x.text) in
    wrong (x.is_padded (sym one.0 ∙ none) ∙ ap₂ (λ (a b : List ℕ). ctr (aes key) a b) (sym one.1) (sym one.2))
