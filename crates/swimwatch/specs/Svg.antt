-- Text between tags and in quotes of XML, which cannot end them.
use Rattle.std.specs.Prelude.{ℕ, ◌≤◌, ◌≢◌, List, [], ◌∷◌, codes, if◌then◌else◌, nat_eq, nat_le, ◌&&◌}

-- printable ASCII, and neither <, >, " nor '
abbrev pub IsInert : ℕ → Type 0
IsInert b = (32 ≤ b) × (b ≤ 126) × (b ≢ 60) × (b ≢ 62) × (b ≢ 34) × (b ≢ 39)

-- a byte: &, <, >, " and ' become entities, and what is not printable ASCII becomes ?
abbrev pub in_xml : ℕ → List ℕ
in_xml b = if nat_eq b 38 then codes "&amp;" else (if nat_eq b 60 then codes "&lt;" else (if nat_eq b 62 then codes "&gt;"
    else (if nat_eq b 34 then codes "&quot;" else (if nat_eq b 39 then codes "&#39;"
    else (if nat_le 32 b && nat_le b 126 then b ∷ [] else 63 ∷ [])))))
