-- A claim overrides if its rank is greater, so overriding is a strict total order among the claims
-- about one name.
use Rattle.std.specs.Prelude.{◌≡◌, ◌≢◌, ◌⊎◌}
use Rattle.std.specs.Cmp.{IsTotalOrder}
use Rattle.std.specs.Ordering.{ordering_reverse}
use Rattle.std.specs.declared.cmp.Ordering.{Ordering}
use Rattle.std.specs.declared.cmp.Ordering.TheVariants.{Less, Equal, Greater}
use Rattle.std.proofs.Common.{refl, ap, ◌∙◌, inl, inr, arith}
use Rattle.std.proofs.lemmas.Bool.Decides.{nat_tests}
use Rattle.std.proofs.lemmas.Cmp.{nat_cmp_total, on_total, then_total, tied_itself}
use Rattle.std.specs.Cmp.Lexicographic.{options_total}
use Rattle.swim_claim.specs.declared.claim.Claim.{Claim}
use Rattle.swim_claim.specs.declared.claim.Claim.TheVariants.{Alive, Suspect, Confirm, Leave}
use Rattle.swim_claim.specs.Claim.{name_of, inc_of, details_of, Overrides}
use Rattle.swim_claim.specs.Details.{details_cmp}
use Rattle.swim_claim.specs.DetailsOrder.{details_cmp_total}
use Rattle.swim_claim.specs.Rank.{finality, weight, claim_cmp}
use Rattle.swim_claim.proofs.DetailsOrder.{details_cmp_exact}

pub claim_cmp_total : IsTotalOrder claim_cmp
claim_cmp_total =
    then_total (on_total finality nat_cmp_total)
    (then_total (on_total inc_of nat_cmp_total)
    (then_total (on_total weight nat_cmp_total)
    (on_total details_of (options_total details_cmp_total))))

-- the rows of `Overrides` are those of the order
pub greater_from_overrides : (c d : Claim) → Overrides c d → claim_cmp c d ≡ Greater
greater_from_overrides (Alive n i x) (Alive m j y) h = grind (arith, nat_tests)
greater_from_overrides (Alive n i x) (Suspect m j) h = grind (arith, nat_tests)
greater_from_overrides (Alive n i x) (Confirm m j) h = absurd h
greater_from_overrides (Alive n i x) (Leave m j) h = absurd h
greater_from_overrides (Suspect n i) (Alive m j y) h = grind (arith, nat_tests)
greater_from_overrides (Suspect n i) (Suspect m j) h = grind (arith, nat_tests)
greater_from_overrides (Suspect n i) (Confirm m j) h = absurd h
greater_from_overrides (Suspect n i) (Leave m j) h = absurd h
greater_from_overrides (Confirm n i) (Alive m j y) h = refl
greater_from_overrides (Confirm n i) (Suspect m j) h = refl
greater_from_overrides (Confirm n i) (Confirm m j) h = grind (arith, nat_tests)
greater_from_overrides (Confirm n i) (Leave m j) h = grind (arith, nat_tests)
greater_from_overrides (Leave n i) (Alive m j y) h = refl
greater_from_overrides (Leave n i) (Suspect m j) h = refl
greater_from_overrides (Leave n i) (Confirm m j) h = grind (arith, nat_tests)
greater_from_overrides (Leave n i) (Leave m j) h = grind (arith, nat_tests)

pub overrides_from_greater : (c d : Claim) → claim_cmp c d ≡ Greater → Overrides c d
overrides_from_greater (Alive n i x) (Alive m j y) h = grind (arith, nat_tests)
overrides_from_greater (Alive n i x) (Suspect m j) h = grind (arith, nat_tests)
overrides_from_greater (Alive n i x) (Confirm m j) h = cc
overrides_from_greater (Alive n i x) (Leave m j) h = cc
overrides_from_greater (Suspect n i) (Alive m j y) h = grind (arith, nat_tests)
overrides_from_greater (Suspect n i) (Suspect m j) h = grind (arith, nat_tests)
overrides_from_greater (Suspect n i) (Confirm m j) h = cc
overrides_from_greater (Suspect n i) (Leave m j) h = cc
overrides_from_greater (Confirm n i) (Alive m j y) h = tt
overrides_from_greater (Confirm n i) (Suspect m j) h = tt
overrides_from_greater (Confirm n i) (Confirm m j) h = grind (arith, nat_tests)
overrides_from_greater (Confirm n i) (Leave m j) h = grind (arith, nat_tests)
overrides_from_greater (Leave n i) (Alive m j y) h = tt
overrides_from_greater (Leave n i) (Suspect m j) h = tt
overrides_from_greater (Leave n i) (Confirm m j) h = grind (arith, nat_tests)
overrides_from_greater (Leave n i) (Leave m j) h = grind (arith, nat_tests)

-- claims about one name with one rank are the same claim
pub claim_cmp_exact : (c d : Claim) → name_of c ≡ name_of d → claim_cmp c d ≡ Equal → c ≡ d
claim_cmp_exact (Alive n i x) (Alive m j y) name h =
    let same_inc : i ≡ j = grind (arith, nat_tests) in
    let tied : details_cmp x y ≡ Equal = grind (arith, nat_tests) in
    cc (details_cmp_exact x y tied)
claim_cmp_exact (Alive n i x) (Suspect m j) name h = grind (arith, nat_tests)
claim_cmp_exact (Alive n i x) (Confirm m j) name h = grind (arith, nat_tests)
claim_cmp_exact (Alive n i x) (Leave m j) name h = grind (arith, nat_tests)
claim_cmp_exact (Suspect n i) (Alive m j y) name h = grind (arith, nat_tests)
claim_cmp_exact (Suspect n i) (Suspect m j) name h =
    let same_inc : i ≡ j = grind (arith, nat_tests) in cc
claim_cmp_exact (Suspect n i) (Confirm m j) name h = grind (arith, nat_tests)
claim_cmp_exact (Suspect n i) (Leave m j) name h = grind (arith, nat_tests)
claim_cmp_exact (Confirm n i) (Alive m j y) name h = grind (arith, nat_tests)
claim_cmp_exact (Confirm n i) (Suspect m j) name h = grind (arith, nat_tests)
claim_cmp_exact (Confirm n i) (Confirm m j) name h =
    let same_inc : i ≡ j = grind (arith, nat_tests) in cc
claim_cmp_exact (Confirm n i) (Leave m j) name h = grind (arith, nat_tests)
claim_cmp_exact (Leave n i) (Alive m j y) name h = grind (arith, nat_tests)
claim_cmp_exact (Leave n i) (Suspect m j) name h = grind (arith, nat_tests)
claim_cmp_exact (Leave n i) (Confirm m j) name h = grind (arith, nat_tests)
claim_cmp_exact (Leave n i) (Leave m j) name h =
    let same_inc : i ≡ j = grind (arith, nat_tests) in cc

-- the three laws
pub overrides_irreflexive : (c : Claim) → ¬ Overrides c c
overrides_irreflexive c h =
    let greater = greater_from_overrides c c h in
    let tied = tied_itself claim_cmp_total c in cc

-- the smaller of two claims has the smaller rank
pub less_from_overrides : (c d : Claim) → Overrides c d → claim_cmp d c ≡ Less
less_from_overrides c d h =
    claim_cmp_total.antisymm d c ∙ ap ordering_reverse (greater_from_overrides c d h)

pub overrides_from_less : (c d : Claim) → claim_cmp d c ≡ Less → Overrides c d
overrides_from_less c d h =
    overrides_from_greater c d (claim_cmp_total.antisymm c d ∙ ap ordering_reverse h)

pub overrides_transitive : (b c d : Claim) → Overrides b c → Overrides c d → Overrides b d
overrides_transitive b c d p q =
    overrides_from_less b d
    (claim_cmp_total.trans d c b (less_from_overrides c d q) (less_from_overrides b c p))

pub overrides_total : (c d : Claim) → name_of c ≡ name_of d → c ≢ d → Overrides c d ⊎ Overrides d c
overrides_total c d name differ = by_answer (claim_cmp c d) refl
  where
    by_answer : (o : Ordering) → claim_cmp c d ≡ o → Overrides c d ⊎ Overrides d c
    by_answer Less h = inr (overrides_from_less d c h)
    by_answer Equal h = absurd (differ (claim_cmp_exact c d name h))
    by_answer Greater h = inl (overrides_from_greater c d h)
