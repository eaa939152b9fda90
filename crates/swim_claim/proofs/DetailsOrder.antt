-- The order of details distinguishes all details.
use Rattle.std.specs.Prelude.{◌≡◌, ℕ, List}
use Rattle.std.specs.declared.cmp.Ordering.TheVariants.{Equal}
use Rattle.std.proofs.Common.{ap}
use Rattle.std.proofs.lemmas.Map.Lookups.{exact_unsigned, exact_bytes, exact_pairs}
use Rattle.swim_claim.specs.Details.{DetailsValue, details_cmp}

-- details that compare as equal are the same
pub details_cmp_exact : (d e : DetailsValue) → details_cmp d e ≡ Equal → d ≡ e
details_cmp_exact d e equal =
    ap (λ (p : List ℕ × (ℕ × (List ℕ × List ℕ))).
    record { addr = p.0; port = p.1.0; meta = p.1.1.0; vsn = p.1.1.1 })
    (exact_pairs _ _ exact_bytes
    (exact_pairs _ _ exact_unsigned (exact_pairs _ _ exact_bytes exact_bytes))
    (d.addr, (d.port, (d.meta, d.vsn))) (e.addr, (e.port, (e.meta, e.vsn))) equal)
