-- Which hosts are still an end of each packet after one more.
use Rattle.std.proofs.Common.{◌≡◌, ◌⊎◌, Bool, true, false, MatchBool, List, ◌∷◌, inl, inr, sym, subst}
use Rattle.std.specs.declared.net.ip_addr.IpAddr.{IpAddr}
use Rattle.memberlist_probes.specs.declared.point.Point.TheVariants as point
use Rattle.memberlist_probes.specs.Points.{Ends, IsEnd, IsPointOf, narrowed, kept}

same_end : (a b : IpAddr) (e : Ends) → a ≡ b → IsEnd b e → IsEnd a e
same_end a b e is end = subst (λ h. IsEnd h e) (sym is) end

one_of : (host one other : IpAddr) (e : Ends) → IsEnd one e → IsEnd other e → (host ≡ one) ⊎ (host ≡ other) → IsEnd host e
one_of host one other e first second (inl is) = same_end host one e is first
one_of host one other e first second (inr is) = same_end host other e is second

not_other : (host one other : IpAddr) (e : Ends) → (IsEnd other e → ⊥) → IsEnd host e → (host ≡ one) ⊎ (host ≡ other) → host ≡ one
not_other host one other e never end (inl is) = is
not_other host one other e never end (inr is) = absurd (never (same_end other host e (sym is) end))

not_one : (host one other : IpAddr) (e : Ends) → (IsEnd one e → ⊥) → IsEnd host e → (host ≡ one) ⊎ (host ≡ other) → host ≡ other
not_one host one other e never end (inl is) = absurd (never (same_end one host e (sym is) end))
not_one host one other e never end (inr is) = is

neither : (host one other : IpAddr) (e : Ends) → (IsEnd one e → ⊥) → (IsEnd other e → ⊥) → IsEnd host e → (host ≡ one) ⊎ (host ≡ other) → ⊥
neither host one other e first second end (inl is) = first (same_end one host e (sym is) end)
neither host one other e first second end (inr is) = second (same_end other host e (sym is) end)

pub of_either : (packets : List Ends) (one other : IpAddr) (e : Ends) (a b : Bool)
    → MatchBool a (IsEnd one e) (IsEnd one e → ⊥) → MatchBool b (IsEnd other e) (IsEnd other e → ⊥)
    → IsPointOf packets (point.Either one other) → IsPointOf (e ∷ packets) (narrowed one other a b)
of_either packets one other e true true first second is = λ host.
    (λ each. (is host).0 each.1, λ which. (one_of host one other e first second which, (is host).1 which))
of_either packets one other e true false first second is = λ host. (
  λ each. not_other host one other e second each.0 ((is host).0 each.1),
  λ which. (same_end host one e which first, (is host).1 (inl which)),
)
of_either packets one other e false true first second is = λ host. (
  λ each. not_one host one other e first each.0 ((is host).0 each.1),
  λ which. (same_end host other e which second, (is host).1 (inr which)),
)
of_either packets one other e false false first second is = λ host. λ each.
    neither host one other e first second each.0 ((is host).0 each.1)

pub of_host : (packets : List Ends) (one : IpAddr) (e : Ends) (a : Bool)
    → MatchBool a (IsEnd one e) (IsEnd one e → ⊥) → IsPointOf packets (point.At one)
    → IsPointOf (e ∷ packets) (kept one a)
of_host packets one e true end is = λ host.
    (λ each. (is host).0 each.1, λ which. (same_end host one e which end, (is host).1 which))
of_host packets one e false end is = λ host. λ each.
    end (same_end one host e (sym ((is host).0 each.1)) each.0)
