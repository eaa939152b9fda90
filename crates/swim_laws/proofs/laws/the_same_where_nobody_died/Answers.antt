use Rattle.std.proofs.Common.{ℕ, ◌<◌, ◌≤◌, refl, arith}
use Rattle.swim_claim.specs.declared.claim.Claim.TheVariants.{Alive}
use Rattle.swim_laws.proofs.Lives.{same}
use Rattle.swim_laws.proofs.Needed.{founded}
use Rattle.swim_laws.proofs.laws.the_same_where_nobody_died.Goals as goal

pub returns-clause-same : goal.returns-clause-same
returns-clause-same c = same

pub returns-clause-needed : goal.returns-clause-needed
returns-clause-needed c = founded

above : (i j k : ℕ) → i < j → j ≤ k → i < k
above i j k lt le = omega (arith, lt, le)

pub returns-clause-enough : goal.returns-clause-enough
returns-clause-enough c = λ name claims after past later i j split made lt.
    let a = after past later j split in
    (Alive name a.0 a.1, a.2, refl, above i j a.0 lt a.3)
