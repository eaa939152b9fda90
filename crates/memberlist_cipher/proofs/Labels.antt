-- Bytes have one label, and none if they are refused.
use Rattle.std.proofs.Common.{◌≡◌, inl, inr, ℕ, List, ◌∷◌, ◌++◌, length, sym, ap, ◌∙◌, arith}
use Rattle.std.proofs.lemmas.List.{length-append}
use Rattle.memberlist_cipher.specs.declared.label.LabelFault.{LabelFault}
use Rattle.memberlist_cipher.specs.declared.label.LabelFault.TheVariants.{Ended, Empty}
use Rattle.memberlist_cipher.specs.Label.{IsLabelText, IsLabelled, LabelCause}
use Rattle.memberlist_cipher.proofs.Refusing.{append_split}

pub one_text : (bytes l r m s : List ℕ) → IsLabelText bytes l r → IsLabelText bytes m s → (l ≡ m) × (r ≡ s)
one_text bytes l r m s a b =
    let e : 244 ∷ length l ∷ (l ++ r) ≡ 244 ∷ length m ∷ (m ++ s) = sym a.1 ∙ b.1 in
    let size : length l ≡ length m = cc in
    let tails : l ++ r ≡ m ++ s = cc in
    append_split l m r s size tails

pub one_label : (bytes l r m s : List ℕ) → IsLabelled bytes l r → IsLabelled bytes m s → (l ≡ m) × (r ≡ s)
one_label bytes l r m s (inl a) (inl b) = (a.0 ∙ sym b.0, sym a.1 ∙ b.1)
one_label bytes l r m s (inl a) (inr b) = absurd (a.2 _ b.1)
one_label bytes l r m s (inr a) (inl b) = absurd (b.2 _ a.1)
one_label bytes l r m s (inr a) (inr b) = one_text bytes l r m s a b

pub lacks_text : (fault : LabelFault) (bytes label rest : List ℕ) → LabelCause fault bytes → IsLabelText bytes label rest → ⊥
lacks_text Ended bytes label rest (inl none) text = omega (arith, ap length (sym none ∙ text.1))
lacks_text Ended bytes label rest (inr cut) text =
    let e : 244 ∷ cut.0 ∷ cut.1 ≡ 244 ∷ length label ∷ (label ++ rest) = sym cut.2 ∙ text.1 in
    let size : cut.0 ≡ length label = cc in
    let short = cut.3 in
    omega (arith, ap length e, length-append label rest)
lacks_text Empty bytes label rest fails text =
    let e : 244 ∷ 0 ∷ fails.0 ≡ 244 ∷ length label ∷ (label ++ rest) = sym fails.1 ∙ text.1 in
    let size : 0 ≡ length label = cc in
    omega (arith, text.0)
