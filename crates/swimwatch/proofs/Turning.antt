-- Turns that wait.
use Rattle.std.proofs.Common.{◌≡◌, ◌⊎◌, ◌↔◌, Bool, true, false, cond, inl, inr, Contains, refl, sym, ap, ap₂, subst, ◌∙◌}
use Rattle.std.specs.BTreeMap.{is_at}
use Rattle.std.specs.BTreeSet.{BTreeSet, Updates, contains}
use Rattle.std.specs.Ordering.{is_eq, nat_cmp, ordering_then}
use Rattle.std.specs.declared.cmp.Ordering.{Ordering}
use Rattle.std.specs.declared.cmp.Ordering.TheVariants.{Less, Equal, Greater}
use Rattle.std.proofs.lemmas.Cmp.{tied_itself}
use Rattle.std.proofs.lemmas.Map.Lookups.{exact_unsigned}
use Rattle.std.proofs.lemmas.Map.Views.{btree_set_contains_iff}
use Rattle.swimwatch.specs.declared.input.turns.Turn.{Turn}
use Rattle.swimwatch.specs.contracts.input.turns.TurnOrd.TheImpl as order
use Rattle.swimwatch.specs.contracts.input.turns.TurnOrd.TheImpl.Laws.{total-law}

abbrev turn_cmp : Turn → Turn → Ordering
turn_cmp = (order.ghosts).cmp

equal_is : (o : Ordering) → is_eq o ≡ true → o ≡ Equal
equal_is Less e = absurd cc
equal_is Equal e = refl
equal_is Greater e = absurd cc

both : (o p : Ordering) → ordering_then o p ≡ Equal → (o ≡ Equal) × (p ≡ Equal)
both Less p e = absurd cc
both Equal p e = (refl, e)
both Greater p e = absurd cc

exact : (a b : Turn) → turn_cmp a b ≡ Equal → a ≡ b
exact a b e =
    let h = both (nat_cmp a.time b.time) (nat_cmp a.place b.place) e in
    ap₂ (λ t p. record { time = t; place = p }) (exact_unsigned a.time b.time h.0) (exact_unsigned a.place b.place h.1)

module _ (turn other : Turn) (old new : BTreeSet Turn) where
  from : (b : Bool) → is_at (turn_cmp turn) other ≡ b → cond b true (contains turn_cmp old other) ≡ true
      → (turn ≡ other) ⊎ Contains old.keys other
  from true at e = inl (exact turn other (equal_is (turn_cmp turn other) at))
  from false at e = inr ((btree_set_contains_iff total-law exact old other).0 e)

  into : (b : Bool) → is_at (turn_cmp turn) other ≡ b → (turn ≡ other) ⊎ Contains old.keys other
      → cond b true (contains turn_cmp old other) ≡ true
  into true at is = refl
  into false at (inl same) =
      absurd (cc (at, subst (λ t. is_eq (turn_cmp turn t) ≡ true) same (ap is_eq (tied_itself total-law turn))))
  into false at (inr has) = (btree_set_contains_iff total-law exact old other).1 has

  pub waits : Updates turn_cmp old new turn true → Contains new.keys other ↔ ((turn ≡ other) ⊎ Contains old.keys other)
  waits updates =
      let is = updates.0 other in (
        λ has. from (is_at (turn_cmp turn) other) refl (sym is ∙ (btree_set_contains_iff total-law exact new other).1 has),
        λ has. (btree_set_contains_iff total-law exact new other).0 (is ∙ into (is_at (turn_cmp turn) other) refl has),
      )
