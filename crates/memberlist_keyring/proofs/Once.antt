-- A text is that of one key, and a file holds one list of keys.
use Rattle.std.proofs.Common.{◌≡◌, inl, inr, ℕ, List, [], ◌∷◌, ◌++◌, length, Ok, refl, sym, ap, ap₂, subst, ◌∙◌, arith}
use Rattle.std.specs.Str.Lines.{strip_carriage_return}
use Rattle.base64.specs.Engines.{standard}
use Rattle.base64.specs.GeneralPurpose.{IsBytes, decode_of, encode_of}
use Rattle.base64.proofs.EngineFacts.{decode_of-encode_of, encode-nil}
use Rattle.serde_json.specs.Data.{Data, string}
use Rattle.memberlist_keyring.specs.KeyFile.{IsKeyText, HoldInOrder, LineHolds, ItemHolds, lines_of, IsKeyFile}
use Rattle.memberlist_keyring.proofs.Files.{same_items}
use Rattle.memberlist_keyring.proofs.Keys.{decoded}

pub one_key : (text x y : List ℕ) → IsKeyText text x → IsKeyText text y → x ≡ y
one_key text x y a b =
    let e = sym (decoded text x a) ∙ decoded text y b in
    cc e

no_bytes : IsBytes []
no_bytes i = omega arith

nothing_decoded : decode_of standard [] ≡ Ok []
nothing_decoded =
    let empty : encode_of standard [] ≡ [] = encode-nil standard.encode_table standard.padding.value standard.config.encode_padding in
    ap (decode_of standard) (sym empty) ∙ decode_of-encode_of standard [] refl no_bytes

-- the empty text is not that of a key
no_key : (text key : List ℕ) → text ≡ [] → ¬ IsKeyText text key
no_key text key none k =
    let e = sym (decoded text key k) ∙ ap (decode_of standard) none ∙ nothing_decoded in
    let is : key ≡ [] = cc e in
    let size = ap length is in
    elim k.good [
      | inl a ↦ omega (arith, a, size)
      | inr b ↦ elim b [ inl a ↦ omega (arith, a, size) | inr a ↦ omega (arith, a, size) ]
    ]

one_held : {X : Type 0} (Holds : X → List (List ℕ) → Type 0) → ((x : X) (a b : List (List ℕ)) → Holds x a → Holds x b → a ≡ b)
    → (xs : List X) (a b : List (List ℕ)) → HoldInOrder Holds xs a
    → HoldInOrder Holds xs b → a ≡ b
one_held Holds one [] a b p q = p ∙ sym q
one_held Holds one (x ∷ xs) a b p q =
    p.4 ∙ ap₂ (λ (k l : List (List ℕ)). k ++ l) (one x p.0 q.0 p.2 q.2) (one_held Holds one xs p.1 q.1 p.3 q.3) ∙ sym q.4

one_line : (line : List ℕ) (a b : List (List ℕ)) → LineHolds line a → LineHolds line b → a ≡ b
one_line line a b (inl p) (inl q) = p.1 ∙ sym q.1
one_line line a b (inl p) (inr q) = absurd (no_key (strip_carriage_return line) q.0 p.0 q.1)
one_line line a b (inr p) (inl q) = absurd (no_key (strip_carriage_return line) p.0 q.0 p.1)
one_line line a b (inr p) (inr q) =
    p.2 ∙ ap (λ (k : List ℕ). k ∷ []) (one_key (strip_carriage_return line) p.0 q.0 p.1 q.1) ∙ sym q.2

one_item : (d : Data) (a b : List (List ℕ)) → ItemHolds d a → ItemHolds d b → a ≡ b
one_item d a b p q =
    let e : string p.0 ≡ string q.0 = sym p.2 ∙ q.2 in
    let same : p.0 ≡ q.0 = cc in
    let P : List ℕ → Type 0 = λ t. IsKeyText t p.1 in
    p.4 ∙ ap (λ (k : List ℕ). k ∷ []) (one_key q.0 p.1 q.1 (subst P same p.3) q.3) ∙ sym q.4

pub one_file : (text : List ℕ) (xs ys : List (List ℕ)) → IsKeyFile text xs → IsKeyFile text ys → xs ≡ ys
one_file text xs ys (inl p) (inl q) =
    let P : List Data → Type 0 = λ ds. HoldInOrder ItemHolds ds xs in
    one_held ItemHolds one_item q.1 xs ys (subst P (same_items p.1 q.1 p.2.1 q.2.1) p.3) q.3
one_file text xs ys (inl p) (inr q) = absurd (q.0 p.0)
one_file text xs ys (inr p) (inl q) = absurd (p.0 q.0)
one_file text xs ys (inr p) (inr q) = one_held LineHolds one_line (lines_of text) xs ys p.1 q.1
