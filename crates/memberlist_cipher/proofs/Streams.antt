-- Reading a stream's head.
use Rattle.std.proofs.Common.{◌≡◌, ℕ, zero, suc, ◌^◌, ◌<◌, ◌≤◌, List, [], ◌∷◌, ◌++◌, length, get_or, take, drop, refl}
use Rattle.std.proofs.Common.{sym, ap, ap₂, ◌∙◌, arith}
use Rattle.std.specs.Int.{w32, from_be_bytes}
use Rattle.std.proofs.lemmas.Nat.{be_bytes_4}
use Rattle.memberlist_cipher.specs.Encryption.{head, IsStream}

pub four_fit : (a b c d : ℕ) → a < 256 → b < 256 → c < 256 → d < 256 → (i : ℕ) → get_or (a ∷ b ∷ c ∷ d ∷ []) i 0 < 256
four_fit a b c d p q r s zero = p
four_fit a b c d p q r s (suc zero) = q
four_fit a b c d p q r s (suc (suc zero)) = r
four_fit a b c d p q r s (suc (suc (suc zero))) = s
four_fit a b c d p q r s (suc (suc (suc (suc i)))) = omega arith

-- five bytes, of which the first is 10 and the others announce n, are the head of n
head_is : (x a b c d n : ℕ) → x ≡ 10 → a < 256 → b < 256 → c < 256 → d < 256
    → n ≡ from_be_bytes w32 (a ∷ b ∷ c ∷ d ∷ []) → x ∷ a ∷ b ∷ c ∷ d ∷ [] ≡ head n
unfolding head
head_is x a b c d n first p q r s e =
    let digits = be_bytes_4 (a ∷ b ∷ c ∷ d ∷ []) n refl (four_fit a b c d p q r s) e in
    ap (λ (y : ℕ). y ∷ a ∷ b ∷ c ∷ d ∷ []) first ∙ ap (λ (ds : List ℕ). 10 ∷ ds) (sym digits)

pub stream_is : (bytes front back : List ℕ) → front ≡ take 5 bytes → back ≡ drop 5 bytes → 5 ≤ length bytes → get_or bytes 0 0 ≡ 10
    → ((i : ℕ) → get_or bytes i 0 < 256)
    → length back ≡ from_be_bytes w32 (get_or bytes 1 0 ∷ get_or bytes 2 0 ∷ get_or bytes 3 0 ∷ get_or bytes 4 0 ∷ [])
    → length back ≤ 2 ^ 28 → (front ≡ head (length back)) × IsStream bytes back
stream_is (x ∷ a ∷ b ∷ c ∷ d ∷ rest) front back f r long first fit n few =
    let h : front ≡ head (length back) = f ∙ head_is x a b c d (length back) first (fit 1) (fit 2) (fit 3) (fit 4) n in
    let text : x ∷ a ∷ b ∷ c ∷ d ∷ rest ≡ head (length back) ++ back = ap₂ (λ (y z : List ℕ). y ++ z) (sym f ∙ h) (sym r) in
    (h, record { few = few; text = text })
stream_is bytes front back f r long first fit n few = absurd (omega arith)
