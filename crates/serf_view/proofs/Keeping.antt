-- What is believed of each name after one more belief.
use Rattle.std.proofs.Common.{◌≡◌, ◌≢◌, ℕ, Bool, true, false, Some, None, IsSome, List, [], ◌∷◌, cond, refl, sym, ap, subst, ◌∙◌}
use Rattle.std.specs.BTreeMap.{insert_entry, is_at}
use Rattle.std.specs.Global.{Vec}
use Rattle.std.specs.Map.{lookup, set_value}
use Rattle.std.specs.Ordering.{is_eq, match_ordering}
use Rattle.std.specs.declared.cmp.Ordering.{Ordering}
use Rattle.std.specs.declared.cmp.Ordering.TheVariants.{Less, Equal, Greater}
use Rattle.std.proofs.lemmas.Cmp.{nat_list_cmp_total, tied_itself}
use Rattle.std.proofs.lemmas.Map.Lookups.{exact_bytes}
use Rattle.serf_view.specs.declared.intents.Intent.{Intent}
use Rattle.serf_view.specs.Intents.{Beliefs, beliefs_in, intent_of, name_cmp}

pub itself : (name : List ℕ) → is_eq (name_cmp name name) ≡ true
itself name = ap is_eq (tied_itself nat_list_cmp_total name)

pub apart : (q name : List ℕ) → q ≢ name → is_eq (name_cmp q name) ≡ false
apart q name ne = by_answer (name_cmp q name) refl
  where
    by_answer : (o : Ordering) → name_cmp q name ≡ o → is_eq o ≡ false
    by_answer Less p = refl
    by_answer Equal p = absurd (ne (exact_bytes q name p))
    by_answer Greater p = refl

-- ---- a map's entries are looked up by their names

abbrev key_cmp : Vec ℕ → Vec ℕ → Ordering
key_cmp x y = name_cmp x.items y.items

abbrev at : List ℕ → Vec ℕ → Ordering
at name key = name_cmp name key.items

pub found : (es : List (Vec ℕ × Intent)) (name : List ℕ) → lookup (is_at (at name)) es ≡ intent_of (beliefs_in es) name
found [] name = refl
found (e ∷ es) name = ap (λ o. cond (is_eq (name_cmp name e.0.items)) (Some e.1) o) (found es name)

pub inserted : (es : List (Vec ℕ × Intent)) (k : Vec ℕ) (v : Intent)
    → beliefs_in (insert_entry key_cmp es k v) ≡ insert_entry name_cmp (beliefs_in es) k.items v
inserted [] k v = refl
inserted (e ∷ es) k v = by_answer (inserted es k v) (name_cmp k.items e.0.items)
  where
    by_answer : beliefs_in (insert_entry key_cmp es k v) ≡ insert_entry name_cmp (beliefs_in es) k.items v → (o : Ordering)
        → beliefs_in (match_ordering o ((k, v) ∷ e ∷ es) ((e.0, v) ∷ es) (e ∷ insert_entry key_cmp es k v))
        ≡ match_ordering o ((k.items, v) ∷ (e.0.items, e.1) ∷ beliefs_in es) ((e.0.items, v) ∷ beliefs_in es)
        ((e.0.items, e.1) ∷ insert_entry name_cmp (beliefs_in es) k.items v)
    by_answer later Less = refl
    by_answer later Equal = refl
    by_answer later Greater = ap (λ fs. (e.0.items, e.1) ∷ fs) later

pub written : (es : List (Vec ℕ × Intent)) (name : List ℕ) (v : Intent)
    → beliefs_in (set_value (is_at (at name)) es v) ≡ set_value (is_at (name_cmp name)) (beliefs_in es) v
written [] name v = refl
written (e ∷ es) name v = by_test (written es name v) (is_eq (name_cmp name e.0.items))
  where
    by_test : beliefs_in (set_value (is_at (at name)) es v) ≡ set_value (is_at (name_cmp name)) (beliefs_in es) v → (b : Bool)
        → beliefs_in (cond b ((e.0, v) ∷ es) (e ∷ set_value (is_at (at name)) es v))
        ≡ cond b ((e.0.items, v) ∷ beliefs_in es) ((e.0.items, e.1) ∷ set_value (is_at (name_cmp name)) (beliefs_in es) v)
    by_test later true = refl
    by_test later false = ap (λ fs. (e.0.items, e.1) ∷ fs) later

-- ---- a new name

pub inserted_here : (es : Beliefs) (k : List ℕ) (v : Intent) → intent_of (insert_entry name_cmp es k v) k ≡ Some v
inserted_here [] k v = ap (λ b. cond b (Some v) None) (itself k)
inserted_here (e ∷ es) k v = by_answer (inserted_here es k v) (name_cmp k e.0) refl
  where
    by_answer : intent_of (insert_entry name_cmp es k v) k ≡ Some v → (o : Ordering) → name_cmp k e.0 ≡ o
        → intent_of (match_ordering o ((k, v) ∷ e ∷ es) ((e.0, v) ∷ es) (e ∷ insert_entry name_cmp es k v)) k ≡ Some v
    by_answer later Less p = ap (λ b. cond b (Some v) (intent_of (e ∷ es) k)) (itself k)
    by_answer later Equal p = ap (λ o. cond (is_eq o) (Some v) (intent_of es k)) p
    by_answer later Greater p = ap (λ o. cond (is_eq o) (Some e.1) (intent_of (insert_entry name_cmp es k v) k)) p ∙ later

pub inserted_other : (es : Beliefs) (k : List ℕ) (v : Intent) (q : List ℕ) → q ≢ k
    → intent_of (insert_entry name_cmp es k v) q ≡ intent_of es q
inserted_other [] k v q ne = ap (λ b. cond b (Some v) None) (apart q k ne)
inserted_other (e ∷ es) k v q ne = by_answer (inserted_other es k v q ne) (name_cmp k e.0) refl
  where
    by_answer : intent_of (insert_entry name_cmp es k v) q ≡ intent_of es q → (o : Ordering) → name_cmp k e.0 ≡ o
        → intent_of (match_ordering o ((k, v) ∷ e ∷ es) ((e.0, v) ∷ es) (e ∷ insert_entry name_cmp es k v)) q ≡ intent_of (e ∷ es) q
    by_answer later Less p = ap (λ b. cond b (Some v) (intent_of (e ∷ es) q)) (apart q k ne)
    by_answer later Equal p =
        let other : is_eq (name_cmp q e.0) ≡ false = subst (λ n. is_eq (name_cmp q n) ≡ false) (exact_bytes k e.0 p) (apart q k ne) in
        ap (λ b. cond b (Some v) (intent_of es q)) other ∙ sym (ap (λ b. cond b (Some e.1) (intent_of es q)) other)
    by_answer later Greater p = ap (λ o. cond (is_eq (name_cmp q e.0)) (Some e.1) o) later

-- ---- a name that is there

pub written_here : (es : Beliefs) (name : List ℕ) (v : Intent) → IsSome (intent_of es name)
    → intent_of (set_value (is_at (name_cmp name)) es v) name ≡ Some v
written_here [] name v is = absurd (cc (is))
written_here (e ∷ es) name v is = by_test (written_here es name v) (is_eq (name_cmp name e.0)) refl is
  where
    by_test : (IsSome (intent_of es name) → intent_of (set_value (is_at (name_cmp name)) es v) name ≡ Some v)
        → (b : Bool) → is_eq (name_cmp name e.0) ≡ b → IsSome (cond b (Some e.1) (intent_of es name))
        → intent_of (cond b ((e.0, v) ∷ es) (e ∷ set_value (is_at (name_cmp name)) es v)) name ≡ Some v
    by_test later true p is = ap (λ b. cond b (Some v) (intent_of es name)) p
    by_test later false p is = ap (λ b. cond b (Some e.1) (intent_of (set_value (is_at (name_cmp name)) es v) name)) p ∙ later is

pub written_other : (es : Beliefs) (name : List ℕ) (v : Intent) (q : List ℕ) → q ≢ name
    → intent_of (set_value (is_at (name_cmp name)) es v) q ≡ intent_of es q
written_other [] name v q ne = refl
written_other (e ∷ es) name v q ne = by_answer (written_other es name v q ne) (name_cmp name e.0) refl
  where
    by_answer : intent_of (set_value (is_at (name_cmp name)) es v) q ≡ intent_of es q → (o : Ordering) → name_cmp name e.0 ≡ o
        → intent_of (cond (is_eq o) ((e.0, v) ∷ es) (e ∷ set_value (is_at (name_cmp name)) es v)) q ≡ intent_of (e ∷ es) q
    by_answer later Equal p =
        let other : is_eq (name_cmp q e.0) ≡ false = subst (λ n. is_eq (name_cmp q n) ≡ false) (exact_bytes name e.0 p) (apart q name ne) in
        ap (λ b. cond b (Some v) (intent_of es q)) other ∙ sym (ap (λ b. cond b (Some e.1) (intent_of es q)) other)
    by_answer later Less p = ap (λ o. cond (is_eq (name_cmp q e.0)) (Some e.1) o) later
    by_answer later Greater p = ap (λ o. cond (is_eq (name_cmp q e.0)) (Some e.1) o) later
