-- The same address and port, as a test and as a fact.
use Rattle.std.proofs.Common.{◌≡◌, ℕ, Bool, true, false, ◌&&◌, nat_eq, refl, ap, ◌∙◌, eq-eqb, arith}
use Rattle.std.specs.Ordering.{is_eq}
use Rattle.std.specs.declared.cmp.Ordering.{Ordering}
use Rattle.std.specs.declared.cmp.Ordering.TheVariants.{Less, Equal, Greater}
use Rattle.std.proofs.lemmas.Bool.Decides.{nat_tests}
use Rattle.std.proofs.lemmas.Map.Lookups.{exact_bytes}
use Rattle.swim_claim.specs.Details.{DetailsValue}
use Rattle.memberlist_view.specs.Rules.{name_cmp, is_same_place}
use Rattle.memberlist_view.proofs.Changing.{first_true, second_true}
use Rattle.memberlist_view.proofs.Inserting.{itself}
use Rattle.swim_laws.specs.Places.{IsSamePlace}

both : (a b : Bool) → a ≡ true → b ≡ true → (a && b) ≡ true
both true b p q = q
both false b p q = p

pub is_same : (d e : DetailsValue) → IsSamePlace d e → is_same_place d e ≡ true
is_same d e same = both (is_eq (name_cmp d.addr e.addr)) (nat_eq d.port e.port)
    (ap is_eq (ap (λ a. name_cmp a e.addr) same.0 ∙ itself e.addr)) (eq-eqb d.port e.port same.1)

pub are_same : (d e : DetailsValue) → is_same_place d e ≡ true → IsSamePlace d e
are_same d e same = (
  by_answer (name_cmp d.addr e.addr) refl (first_true (is_eq (name_cmp d.addr e.addr)) (nat_eq d.port e.port) same),
  one_port d.port e.port (second_true (is_eq (name_cmp d.addr e.addr)) (nat_eq d.port e.port) same),
)
  where
    by_answer : (o : Ordering) → name_cmp d.addr e.addr ≡ o → is_eq o ≡ true → d.addr ≡ e.addr
    by_answer Equal is h = exact_bytes d.addr e.addr is
    by_answer Less is h = absurd (cc (h))
    by_answer Greater is h = absurd (cc (h))

    one_port : (p q : ℕ) → nat_eq p q ≡ true → p ≡ q
    one_port p q h = grind (arith, nat_tests)
