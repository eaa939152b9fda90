use Rattle.std.proofs.Common.{◌≡◌, ◌⊎◌, ◌<◌, ◌^◌, ℕ, inl, inr}
use Rattle.swim_claim.specs.declared.claim.Claim.{Claim}
use Rattle.swim_claim.specs.declared.claim.Claim.TheVariants.{Suspect, Confirm, Leave}
use Rattle.swim_claim.specs.declared.name.Name.{Name}
use Rattle.swim_claim.specs.Claim.{IsLegalClaim}
use Rattle.swim_claim.specs.Name.{IsLegalName}
use Rattle.swim_claim.proofs.claim.Claim.promise_legal.Goals as goal

pub returns-in-Alive : goal.returns-in-Alive
returns-in-Alive c = rw c.in-Alive.is (record { name = search; inc = search; details = c.meta.ensures.legal })

-- a claim without details
by_kind : (claim : Claim) (name : Name) (inc : ℕ) → IsLegalName name → inc < 2 ^ 32
    → (claim ≡ Suspect name inc) ⊎ ((claim ≡ Confirm name inc) ⊎ (claim ≡ Leave name inc)) → IsLegalClaim claim
by_kind claim name inc legal fits (inl is) = rw is (record { name = legal; inc = fits; details = tt })
by_kind claim name inc legal fits (inr (inl is)) = rw is (record { name = legal; inc = fits; details = tt })
by_kind claim name inc legal fits (inr (inr is)) = rw is (record { name = legal; inc = fits; details = tt })

pub returns-in-Suspect : goal.returns-in-Suspect
returns-in-Suspect c = by_kind _ _ _ c.bytes-in-Suspect.ensures.legal (search) c.in-Suspect.is
