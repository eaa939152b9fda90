-- Packets that came before.
use Rattle.std.proofs.Common.{◌≡◌, ℕ, Bool, true, false, ◌||◌, List, [], ◌∷◌, ◌++◌, Option, inl, inr, ◌⊎◌, Contains, refl, sym, ap, ◌∙◌, subst, arith}
use Rattle.std.specs.List.{list_any}
use Rattle.std.specs.Option.{option_to_list}
use Rattle.std.specs.VecDeque.{deque_items}
use Rattle.std.proofs.lemmas.List.Folds.{list_any-append}
use Rattle.std.proofs.lemmas.List.Elements.{Contains-append_left, Contains-append_right, Contains-push, Contains-push_cases}
use Rattle.swimwatch.specs.declared.heard.recent.Packet.{Packet}
use Rattle.swimwatch.specs.declared.heard.recent.Recent.{Recent}
use Rattle.swimwatch.specs.Ways.{PacketText, packet_text, is_again, AreKept}

-- each packet that is kept was captured, also with one more
pub still : (past : List PacketText) (recent : Recent) (p : PacketText) → AreKept past recent → AreKept (past ++ p ∷ []) recent
still past recent p kept q is = Contains-append_left past (p ∷ []) (packet_text q) (kept q is)

or-true : (b : Bool) → (b || true) ≡ true
or-true true = refl
or-true false = refl

module _ (new : PacketText) where
  abbrev again : Packet → Bool
  again old = is_again (packet_text old) new

  here : (x : Packet) (xs : List Packet) (b : Bool) → again x ≡ b → (b || list_any again xs) ≡ true
      → (list_any again xs ≡ true → (old : Packet) × Contains xs old × (again old ≡ true))
      → (old : Packet) × Contains (x ∷ xs) old × (again old ≡ true)
  here x xs true is e later = (x, (0, omega arith, refl), is)
  here x xs false is e later =
      let l = later e in
      (l.0, Contains-append_right (x ∷ []) xs l.0 l.1, l.2)

  found : (xs : List Packet) → list_any again xs ≡ true → (old : Packet) × Contains xs old × (again old ≡ true)
  found [] e = absurd cc
  found (x ∷ xs) e = here x xs (again x) refl e (found xs)

  pub either : (xs ys items : List Packet) → xs ++ ys ≡ items → (list_any again xs ≡ true) ⊎ (list_any again ys ≡ true)
      → list_any again items ≡ true
  either xs ys items is (inl e) =
      let both = list_any-append again xs ys in
      subst (λ l. list_any again l ≡ true) is (both ∙ ap (λ b. b || list_any again ys) e)
  either xs ys items is (inr e) =
      let both = list_any-append again xs ys in
      subst (λ l. list_any again l ≡ true) is (both ∙ ap (λ b. list_any again xs || b) e ∙ or-true (list_any again xs))

  pub came : (past : List PacketText) (recent : Recent) → AreKept past recent → list_any again (deque_items recent.packets) ≡ true
      → (old : PacketText) × Contains past old × (is_again old new ≡ true)
  came past recent kept e =
      let old = found (deque_items recent.packets) e in
      (packet_text old.0, kept old.0 old.1, old.2)

-- one that is kept besides
pub pushed : (past : List PacketText) (old mid new : List Packet) (gone : Option Packet) (p : Packet)
    → ((q : Packet) → Contains old q → Contains past (packet_text q)) → old ≡ option_to_list gone ++ mid → new ≡ mid ++ p ∷ []
    → (q : Packet) → Contains new q → Contains (past ++ packet_text p ∷ []) (packet_text q)
pushed past old mid new gone p kept was is q among = by (Contains-push_cases mid p q (subst (λ l. Contains l q) is among))
  where
    by : Contains mid q ⊎ (p ≡ q) → Contains (past ++ packet_text p ∷ []) (packet_text q)
    by (inl before) =
        let old_has : Contains old q = subst (λ l. Contains l q) (sym was) (Contains-append_right (option_to_list gone) mid q before) in
        Contains-append_left past (packet_text p ∷ []) (packet_text q) (kept q old_has)
    by (inr same) = subst (λ x. Contains (past ++ packet_text p ∷ []) (packet_text x)) same (Contains-push past (packet_text p))
