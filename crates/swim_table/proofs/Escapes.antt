-- Which bytes of a name a listing escapes.
use Rattle.std.proofs.Common.{◌≡◌, ◌≢◌, ◌↔◌, ℕ, zero, suc, ◌<◌, ◌≤◌, Bool, true, false, not, ◌&&◌, ◌==◌, inl, inr, refl, arith}
use Rattle.std.specs.Prelude.{nat_le}
use Rattle.std.proofs.lemmas.Bool.{and_parts, cases_lt}
use Rattle.std.proofs.lemmas.Bool.Decides.{nat_tests}
use Rattle.percent_encoding.specs.AsciiSet.{should_percent_encode}
use Rattle.percent_encoding.proofs.AsciiSetLemmas.{ascii_from_kept}
use Rattle.swim_table.specs.declared.listing.TheConstants.{ESCAPED}

abbrev is_visible : ℕ → Bool
is_visible b = nat_le 33 b && nat_le b 126 && not (b == 37)

abbrev agrees : Bool → Bool → Bool
agrees true b = not b
agrees false b = b

-- the bytes below n are escaped exactly if they are not visible; this computes
abbrev all_agree : ℕ → Bool
all_agree zero = true
all_agree (suc n) = agrees (should_percent_encode ESCAPED n) (is_visible n) && all_agree n

agrees_at : (n b : ℕ) → all_agree n ≡ true → b < n → agrees (should_percent_encode ESCAPED b) (is_visible b) ≡ true
agrees_at zero b all below = absurd (omega arith)
agrees_at (suc n) b all below =
    let parts = and_parts (agrees (should_percent_encode ESCAPED n) (is_visible n)) (all_agree n) all in
    elim (cases_lt b n) [
      | inl lower ↦ agrees_at n b parts.1 lower
      | inr top ↦ (let is : b ≡ n = omega arith in rw is parts.0)
    ]

all_bytes : all_agree 128 ≡ true
unfolding should_percent_encode
all_bytes = refl

by_answer : (escaped : Bool) (b : ℕ) → agrees escaped (is_visible b) ≡ true → (escaped ≡ false) ↔ ((33 ≤ b) × (b ≤ 126) × (b ≢ 37))
by_answer true b agree = (λ kept. absurd cc, λ visible. absurd (grind (arith, nat_tests)))
by_answer false b agree = (
  λ kept.
      (grind (arith, nat_tests), grind (arith, nat_tests), λ is. absurd (grind (arith, nat_tests))),
  λ visible. refl,
)

pub kept_bytes : (b : ℕ) → (should_percent_encode ESCAPED b ≡ false) ↔ ((33 ≤ b) × (b ≤ 126) × (b ≢ 37))
kept_bytes b = elim (cases_lt b 128) [
  | inl ascii ↦ by_answer (should_percent_encode ESCAPED b) b (agrees_at 128 b all_bytes ascii)
  | inr above ↦ (λ kept. absurd (let low = ascii_from_kept ESCAPED b kept in omega arith), λ visible. absurd (omega arith))
]
