-- Labels of packets and streams (memberlist's label.go).
use Rattle.std.specs.Prelude.{◌≡◌, ◌≢◌, ◌⊎◌, ℕ, ◌<◌, List, [], ◌∷◌, ◌++◌, length}
use Rattle.memberlist_cipher.specs.declared.label.LabelFault.{LabelFault}
use Rattle.memberlist_cipher.specs.declared.label.LabelFault.TheVariants.{Ended, Empty}

-- 244, a length of at least 1, a label of that many bytes, and what is labelled
abbrev pub IsLabelText : List ℕ → List ℕ → List ℕ → Type 0
IsLabelText bytes label rest =
    (0 < length label) × (bytes ≡ 244 ∷ length label ∷ label ++ rest)

-- a label and what it labels, or no label
abbrev pub IsLabelled : List ℕ → List ℕ → List ℕ → Type 0
IsLabelled bytes label rest =
    ((label ≡ []) × (bytes ≡ rest) × ((more : List ℕ) → bytes ≢ 244 ∷ more))
    ⊎ IsLabelText bytes label rest

-- why bytes that start with 244 are not a label: there is no length, or not that many bytes, or the
-- length is 0
abbrev pub LabelCause : LabelFault → List ℕ → Type 0
LabelCause Ended bytes = (bytes ≡ 244 ∷ [])
    ⊎ ((size : ℕ) × (rest : List ℕ) × (bytes ≡ 244 ∷ size ∷ rest) × (length rest < size))
LabelCause Empty bytes = (rest : List ℕ) × (bytes ≡ 244 ∷ 0 ∷ rest)
