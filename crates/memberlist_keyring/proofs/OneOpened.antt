-- A keyring decrypts bytes to one message.
use Rattle.std.proofs.Common.{◌≡◌, ◌∙◌, ℕ, suc, List, [], ◌∷◌, ◌++◌, get_or, drop, refl, sym, ap, subst, arith}
use Rattle.std.specs.List.{Contains}
use Rattle.memberlist_cipher.specs.Encryption.{Encryption, StreamEncryption}
use Rattle.memberlist_cipher.proofs.Once.{one_message, one_stream_message}
use Rattle.memberlist_keyring.specs.Opening.{IsFirst, OpensFirstAs, OpensFirst, OpensStream, OpensStreamFirst}
use Rattle.memberlist_cipher.proofs.Labels.{one_label}
use Rattle.memberlist_keyring.proofs.Openings.{first_opens}

-- two keys that each decrypt something, and before which none does, are the same
same_key : (Opened : List ℕ → List ℕ → Type 0) (b : List (List ℕ)) (k : List ℕ) (a c : List (List ℕ)) (l : List ℕ)
    (d : List (List ℕ)) (x y : List ℕ) → b ++ k ∷ a ≡ c ++ l ∷ d
    → ((other : List ℕ) → Contains b other → (any : List ℕ) → ¬ Opened other any)
    → ((other : List ℕ) → Contains c other → (any : List ℕ) → ¬ Opened other any) → Opened k x → Opened l y → k ≡ l
same_key Opened [] k a [] l d x y e f g p q = ap (λ t. get_or t 0 k) e
same_key Opened [] k a (o ∷ c) l d x y e f g p q =
    let same : k ≡ o = ap (λ t. get_or t 0 k) e in
    absurd (g o (0, omega arith, refl) x (subst (λ z. Opened z x) same p))
same_key Opened (o ∷ b) k a [] l d x y e f g p q =
    let same : o ≡ l = ap (λ t. get_or t 0 l) e in
    absurd (f o (0, omega arith, refl) y (subst (λ z. Opened z y) (sym same) q))
same_key Opened (o ∷ b) k a (u ∷ c) l d x y e f g p q =
    same_key Opened b k a c l d x y (ap (drop 1) e)
    (λ other h. f other (suc h.0, (let lt = h.1 in omega arith), h.2))
    (λ other h. g other (suc h.0, (let lt = h.1 in omega arith), h.2)) p q

one_first : (Opened : List ℕ → List ℕ → Type 0) (keys : List (List ℕ)) (x y : List ℕ) → ((k m n : List ℕ) → Opened k m → Opened k n → m ≡ n)
    → IsFirst Opened keys x → IsFirst Opened keys y → x ≡ y
one_first Opened keys x y one p q =
    let same = same_key Opened p.before p.key p.after q.before q.key q.after x y
    (sym p.parts ∙ q.parts) p.earlier q.earlier p.opened q.opened in
    one q.key x y (subst (λ z. Opened z x) same p.opened) q.opened

-- if one key decrypts bytes to one message, so do keys in one order
one_opened_as : (E : List ℕ → List ℕ → List ℕ → List ℕ → Type 0)
    → ((key label bytes m n : List ℕ) → E key label bytes m → E key label bytes n → m ≡ n)
    → (keys : List (List ℕ)) (bytes x y : List ℕ) → OpensFirstAs E keys bytes x → OpensFirstAs E keys bytes y → x ≡ y
one_opened_as E same keys bytes x y p q =
    let one = one_label bytes p.label p.rest q.label q.rest p.labelled q.labelled in
    let P : List ℕ → List ℕ → Type 0 = λ l r. IsFirst (λ key inner. E key l r inner) keys x in
    one_first (λ key inner. E key q.label q.rest inner) keys x y (λ k m n. same k q.label q.rest m n)
    (subst (λ r. P q.label r) one.1 (subst (λ l. P l p.rest) one.0 p.first)) q.first

pub one_opened : (keys : List (List ℕ)) (bytes x y : List ℕ) → OpensFirst keys bytes x → OpensFirst keys bytes y → x ≡ y
one_opened = one_opened_as Encryption one_message

pub one_opened_stream : (keys : List (List ℕ)) (bytes x y : List ℕ) → OpensStreamFirst keys bytes x → OpensStreamFirst keys bytes y → x ≡ y
one_opened_stream = one_opened_as StreamEncryption one_stream_message

pub opens_stream : (keys : List (List ℕ)) (bytes x : List ℕ) → OpensStreamFirst keys bytes x → OpensStream keys bytes x
opens_stream = first_opens StreamEncryption
