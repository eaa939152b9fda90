-- memberlist's score of a member's own health (awareness.go): from 0, healthy, to 7.
use Rattle.std.specs.Prelude.{ℕ, ◌+◌, ◌-◌, min, nat_eq, if◌then◌else◌, List, [], ◌∷◌}
use Rattle.memberlist_probes.specs.declared.awareness.Change.{Change}
use Rattle.memberlist_probes.specs.declared.awareness.Change.TheVariants.{Answered, Failed, Refuted}

abbrev pub worse : ℕ → ℕ → ℕ
worse score by = min (score + by) 7

-- A failed probe costs a point for each member that was asked and did not say that it got no answer
-- either; if none was asked, one point.
abbrev pub penalty : ℕ → ℕ → ℕ
penalty asked nacks = if nat_eq asked 0 then 1 else asked - nacks

abbrev pub score_after : ℕ → Change → ℕ
score_after score Answered = score - 1
score_after score (Failed asked nacks) = worse score (penalty asked nacks)
score_after score Refuted = worse score 1

-- the score after these changes, in order
unfoldable pub scored : ℕ → List Change → ℕ
scored score [] = score
scored score (change ∷ changes) = scored (score_after score change) changes

-- ---- how much they bring

abbrev pub answers_in : Change → ℕ
answers_in Answered = 1
answers_in (Failed asked nacks) = 0
answers_in Refuted = 0

abbrev pub points_in : Change → ℕ
points_in Answered = 0
points_in (Failed asked nacks) = penalty asked nacks
points_in Refuted = 1

unfoldable pub answers : List Change → ℕ
answers [] = 0
answers (change ∷ changes) = answers_in change + answers changes

unfoldable pub points : List Change → ℕ
points [] = 0
points (change ∷ changes) = points_in change + points changes
