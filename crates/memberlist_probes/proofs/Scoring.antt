-- A score is monotone in the score before, and enough answers make all scores one.
use Rattle.std.proofs.Common.{◌≡◌, ℕ, zero, suc, ◌+◌, ◌-◌, ◌≤◌, List, [], ◌∷◌, ap, arith}
use Rattle.memberlist_probes.specs.declared.awareness.Change.{Change}
use Rattle.memberlist_probes.specs.declared.awareness.Change.TheVariants.{Answered, Failed, Refuted}
use Rattle.memberlist_probes.specs.Health.{worse, penalty, score_after, scored, answers, points}

step_monotone : (change : Change) (low high : ℕ) → low ≤ high → score_after low change ≤ score_after high change
step_monotone Answered low high le = omega (arith, le)
step_monotone (Failed asked nacks) low high le = omega (arith, le)
step_monotone Refuted low high le = omega (arith, le)

pub monotone : (changes : List Change) (low high : ℕ) → low ≤ high → scored low changes ≤ scored high changes
unfolding scored
monotone [] low high le = le
monotone (change ∷ changes) low high le = monotone changes (score_after low change) (score_after high change)
    (step_monotone change low high le)

worse_within : (score by : ℕ) → worse score by ≤ score + by
worse_within score by = omega arith

-- as many answers as the greatest score and the points bring both to the same
pub meet : (changes : List Change) (low high : ℕ) → low ≤ high → high + points changes ≤ answers changes
    → scored low changes ≡ scored high changes
unfolding scored points answers
meet [] low high le enough = omega (arith, le, enough)
meet (Answered ∷ changes) low zero le enough = let none : low ≡ zero = omega (arith, le) in ap (λ n. scored (n - 1) changes) none
meet (Answered ∷ changes) low (suc high) le enough = meet changes (low - 1) (suc high - 1) (omega (arith, le)) (omega (arith, enough))
meet (Failed asked nacks ∷ changes) low high le enough =
    meet changes (worse low (penalty asked nacks)) (worse high (penalty asked nacks)) (step_monotone (Failed asked nacks) low high le)
    (omega (arith, enough, worse_within high (penalty asked nacks)))
meet (Refuted ∷ changes) low high le enough =
    meet changes (worse low 1) (worse high 1) (step_monotone Refuted low high le) (omega (arith, enough, worse_within high 1))
