-- Which cluster a packet is of.
use Rattle.std.proofs.Common.{◌≡◌, ◌≢◌, ℕ, Bool, List, [], inl, inr, Decides, subst}
use Rattle.memberlist_cipher.specs.Label.{IsLabelled}
use Rattle.memberlist_cipher.proofs.Labels.{one_label}
use Rattle.swimwatch.specs.Datagrams.{IsOfCluster}

is_it : (label other rest bytes : List ℕ) → label ≢ [] → IsLabelled bytes other rest → IsOfCluster label bytes → other ≡ label
is_it label other rest bytes some has (inl none) = absurd (some none)
is_it label other rest bytes some has (inr (more, is)) = (one_label bytes other rest label more has is).0

pub by_label : (label other rest bytes : List ℕ) (r : Bool) → label ≢ [] → IsLabelled bytes other rest
    → Decides r (other ≡ label) → Decides r (IsOfCluster label bytes)
by_label label other rest bytes r some has same = (
  λ e. inr (rest, subst (λ l. IsLabelled bytes l rest) (same.0 e) has),
  λ of. same.1 (is_it label other rest bytes some has of),
)
