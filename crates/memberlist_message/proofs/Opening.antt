-- Messages that are opened one by one, with the parts that are still to come.
use Rattle.std.proofs.Common.{◌≡◌, ℕ, ◌+◌, ◌*◌, ◌-◌, ◌/◌, ◌==◌, ◌<◌, ◌≤◌, suc, Bool, true, false, nat_lt, List, [], ◌∷◌}
use Rattle.std.proofs.Common.{◌++◌, length, take, drop, Option, Some, None, if◌then◌else◌, refl, sym, ap, subst, ◌∙◌}
use Rattle.std.proofs.Common.{arith, append_assoc, append-nil}
use Rattle.std.proofs.lemmas.Bool.Decides.{nat_tests}
use Rattle.std.proofs.lemmas.List.{length-append, length-drop, length-take-le}
use Rattle.memberlist_message.specs.Compounds.{PartsValue, lengths_in, counted, compound_of, parts_in, truncated_in}
use Rattle.memberlist_message.specs.Leaves.{AreLeaves}
use Rattle.memberlist_message.specs.Leaves.AreLeaves.{none, leaf, opened}
use Rattle.memberlist_message.proofs.Divided.{length_of_lengths}

-- the parts that are still to come, of the messages that are open: the last one comes first
abbrev pub pending : List PartsValue → List (List ℕ)
pending [] = []
pending (p ∷ ps) = pending ps ++ parts_in p.lens p.bytes

-- how many of these are truncated
abbrev pub lost : List PartsValue → ℕ
lost [] = 0
lost (p ∷ ps) = lost ps + truncated_in p.lens p.bytes

-- what bounds the work that is left
abbrev pub weight : List PartsValue → ℕ
weight [] = 0
weight (p ∷ ps) = weight ps + suc (length p.lens + length p.bytes)

pending-last : (ps : List PartsValue) (p : PartsValue) → pending (ps ++ p ∷ []) ≡ parts_in p.lens p.bytes ++ pending ps
pending-last [] p = sym (append-nil (parts_in p.lens p.bytes))
pending-last (q ∷ ps) p =
    ap (λ (xs : List (List ℕ)). xs ++ parts_in q.lens q.bytes) (pending-last ps p)
    ∙ append_assoc (parts_in p.lens p.bytes) (pending ps) (parts_in q.lens q.bytes)

lost-last : (ps : List PartsValue) (p : PartsValue) → lost (ps ++ p ∷ []) ≡ truncated_in p.lens p.bytes + lost ps
lost-last [] p = omega arith
lost-last (q ∷ ps) p = let more = lost-last ps p in omega (arith, more)

pub weight-last : (ps : List PartsValue) (p : PartsValue) → weight (ps ++ p ∷ []) ≡ suc (length p.lens + length p.bytes) + weight ps
weight-last [] p = omega arith
weight-last (q ∷ ps) p = let more = weight-last ps p in omega (arith, more)

moved : (ms ns xs ys : List (List ℕ)) (a b : ℕ) → ms ≡ ns → xs ≡ ys → a ≡ b → AreLeaves ms xs a → AreLeaves ns ys b
moved ms ns xs ys a b m x n h = subst
    (λ (zs : List (List ℕ)). AreLeaves zs ys b) m
    (subst (λ (zs : List (List ℕ)). AreLeaves ms zs b) x (subst (λ (c : ℕ). AreLeaves ms xs c) n h))

-- whatever the leaves of what is still to come are: those of the message are the taken ones and they
abbrev pub Goes : List ℕ → List (List ℕ) → ℕ → List PartsValue → Type 0
Goes message taken truncated stack = (rest : List (List ℕ)) (n : ℕ) → AreLeaves (pending stack) rest n
    → AreLeaves (message ∷ []) (taken ++ rest) (truncated + (lost stack + n))

pub begun : (message : List ℕ) (p : PartsValue) → compound_of message ≡ Some p → Goes message [] 0 (p ∷ [])
begun message p is = λ rest n h.
    let t = truncated_in p.lens p.bytes in
    moved _ _ _ _ (t + n) (0 + (0 + t + n)) refl refl (omega arith)
    (opened message [] rest n p is (moved _ _ _ _ n n (sym (append-nil (parts_in p.lens p.bytes))) refl refl h))

pub ended : (message : List ℕ) (taken : List (List ℕ)) (truncated more : ℕ) (ps : List PartsValue) (p : PartsValue)
    → parts_in p.lens p.bytes ≡ [] → more ≡ truncated_in p.lens p.bytes
    → Goes message taken truncated (ps ++ p ∷ []) → Goes message taken (truncated + more) ps
ended message taken truncated more ps p last is goes = λ rest n h.
    let fewer = lost-last ps p in
    moved _ _ _ _ (truncated + (lost (ps ++ p ∷ []) + n)) (truncated + more + (lost ps + n)) refl refl (omega (arith, fewer, is))
    (goes rest n (moved _ _ _ _ n n (sym (pending-last ps p ∙ ap (λ (xs : List (List ℕ)). xs ++ pending ps) last)) refl refl h))

-- what is still to come begins with the part that is taken
next_pending : (ps : List PartsValue) (old new : PartsValue) (part : List ℕ)
    → parts_in old.lens old.bytes ≡ part ∷ parts_in new.lens new.bytes
    → part ∷ pending (ps ++ new ∷ []) ≡ pending (ps ++ old ∷ [])
next_pending ps old new part is =
    ap (λ (xs : List (List ℕ)). part ∷ xs) (pending-last ps new)
    ∙ (ap (λ (xs : List (List ℕ)). xs ++ pending ps) (sym is) ∙ sym (pending-last ps old))

pub taken_leaf : (message : List ℕ) (taken : List (List ℕ)) (truncated : ℕ) (ps : List PartsValue) (old new : PartsValue) (part : List ℕ)
    → parts_in old.lens old.bytes ≡ part ∷ parts_in new.lens new.bytes
    → truncated_in new.lens new.bytes ≡ truncated_in old.lens old.bytes → compound_of part ≡ None
    → Goes message taken truncated (ps ++ old ∷ []) → Goes message (taken ++ part ∷ []) truncated (ps ++ new ∷ [])
taken_leaf message taken truncated ps old new part is same none_in goes = λ rest n h.
    let before = lost-last ps old in
    let after = lost-last ps new in
    moved _ _ _ _ (truncated + (lost (ps ++ old ∷ []) + n)) (truncated + (lost (ps ++ new ∷ []) + n)) refl
    (sym (append_assoc taken (part ∷ []) rest)) (omega (arith, before, after, same))
    (goes (part ∷ rest) n (moved _ _ _ _ n n (next_pending ps old new part is) refl refl
    (leaf part (pending (ps ++ new ∷ [])) rest n none_in h)))

pub taken_compound : (message : List ℕ) (taken : List (List ℕ)) (truncated : ℕ) (ps : List PartsValue)
    (old new inner : PartsValue) (part : List ℕ)
    → parts_in old.lens old.bytes ≡ part ∷ parts_in new.lens new.bytes
    → truncated_in new.lens new.bytes ≡ truncated_in old.lens old.bytes
    → compound_of part ≡ Some inner
    → Goes message taken truncated (ps ++ old ∷ []) → Goes message taken truncated ((ps ++ new ∷ []) ++ inner ∷ [])
taken_compound message taken truncated ps old new inner part is same some_in goes = λ rest n h.
    let t = truncated_in inner.lens inner.bytes in
    let before = lost-last ps old in
    let after = lost-last ps new in
    let deeper = lost-last (ps ++ new ∷ []) inner in
    moved _ _ _ _ (truncated + (lost (ps ++ old ∷ []) + (t + n)))
    (truncated + (lost ((ps ++ new ∷ []) ++ inner ∷ []) + n)) refl refl
    (omega (arith, before, after, deeper, same))
    (goes rest (t + n) (moved _ _ _ _ (t + n) (t + n) (next_pending ps old new part is) refl refl
    (opened part (pending (ps ++ new ∷ [])) rest n inner some_in (moved _ _ _ _ n n (pending-last (ps ++ new ∷ []) inner) refl refl h))))

pub all_taken : (message : List ℕ) (taken : List (List ℕ)) (truncated : ℕ) → Goes message taken truncated []
    → AreLeaves (message ∷ []) taken truncated
all_taken message taken truncated goes =
    moved _ _ _ _ (truncated + (0 + 0)) truncated refl (append-nil taken) (omega arith) (goes [] 0 none)

pub only_leaf : (message : List ℕ) → compound_of message ≡ None → AreLeaves (message ∷ []) (message ∷ []) 0
only_leaf message is = leaf message [] [] 0 is none

-- ---- how much is left

-- a compound message has a byte for its type, one for the number of parts, and two for each length
weight_of_counted : (count : ℕ) (rest : List ℕ) (p : PartsValue) → counted count rest ≡ Some p
    → length p.lens + length p.lens + length p.bytes ≡ length rest
weight_of_counted count rest p is = by_test (nat_lt (length rest) (2 * count)) refl is
  where
    parts : PartsValue
    parts = record { lens = lengths_in (take (2 * count) rest); bytes = drop (2 * count) rest }

    by_test : (b : Bool) → nat_lt (length rest) (2 * count) ≡ b → (if b then None else Some parts) ≡ Some p
        → length p.lens + length p.lens + length p.bytes ≡ length rest
    by_test true less h = absurd (cc (h))
    by_test false enough h =
        let e : parts ≡ p = cc (h) in
        let lens : length p.lens ≡ length (lengths_in (take (2 * count) rest)) = ap (λ (q : PartsValue). length q.lens) (sym e) in
        let bytes : length p.bytes ≡ length (drop (2 * count) rest) = ap (λ (q : PartsValue). length q.bytes) (sym e) in
        let halves = length_of_lengths (take (2 * count) rest) in
        let le : 2 * count ≤ length rest = grind (arith, nat_tests) in
        let taken : length (take (2 * count) rest) ≡ 2 * count = length-take-le (2 * count) rest le in
        let dropped : length (drop (2 * count) rest) ≡ length rest - 2 * count = length-drop (2 * count) rest in
        omega (arith, lens, bytes, halves, le, taken, dropped)

pub weight_of_compound : (message : List ℕ) (p : PartsValue) → compound_of message ≡ Some p
    → length p.lens + length p.lens + length p.bytes + 2 ≡ length message
weight_of_compound [] p is = absurd (cc (is))
weight_of_compound (first ∷ []) p is = absurd (cc (is))
weight_of_compound (first ∷ count ∷ rest) p is = by_test (first == 7) refl is
  where
    by_test : (b : Bool) → (first == 7) ≡ b → (if b then counted count rest else None) ≡ Some p
        → length p.lens + length p.lens + length p.bytes + 2 ≡ length (first ∷ count ∷ rest)
    by_test true seven h = let w = weight_of_counted count rest p h in omega (arith, w)
    by_test false other h = absurd (cc (h))

-- ---- the loop

-- what holds between its turns
pub record Going (message : List ℕ) (taken : List (List ℕ)) (truncated : ℕ) (stack : List PartsValue) : Type 0 where
  pub goes : Goes message taken truncated stack
  pub few : truncated + weight stack ≤ length message

pub going_begins : (message : List ℕ) (taken : List (List ℕ)) (stack : List PartsValue) (p : PartsValue)
    → compound_of message ≡ Some p → taken ≡ [] → stack ≡ p ∷ [] → Going message taken 0 stack
going_begins message taken stack p is first one =
    let w = weight_of_compound message p is in
    let e : weight stack ≡ 0 + suc (length p.lens + length p.bytes) = ap weight one in
    record {
      goes = subst (λ (xs : List (List ℕ)). Goes message xs 0 stack) (sym first)
          (subst (λ (ps : List PartsValue). Goes message [] 0 ps) (sym one) (begun message p is));
      few = omega (arith, w, e);
    }

module _ (message : List ℕ) (taken : List (List ℕ)) (truncated : ℕ) (stack ps : List PartsValue)
    (old : PartsValue) (going : Going message taken truncated stack)
    (top : stack ≡ ps ++ old ∷ []) where
  weight_of_stack : weight stack ≡ suc (length old.lens + length old.bytes) + weight ps
  weight_of_stack = ap weight top ∙ weight-last ps old

  goes_of_stack : Goes message taken truncated (ps ++ old ∷ [])
  goes_of_stack = subst (λ (qs : List PartsValue). Goes message taken truncated qs) top going.goes

  pub going_ends : (more : ℕ) → parts_in old.lens old.bytes ≡ [] → more ≡ truncated_in old.lens old.bytes → more ≡ length old.lens
      → Going message taken (truncated + more) ps
  going_ends more last is long =
      let w = weight_of_stack in
      let few = going.few in
      record { goes = ended message taken truncated more ps old last is goes_of_stack; few = omega (arith, w, few, long) }

  pub ends_smaller : weight ps < weight stack
  ends_smaller = let w = weight_of_stack in omega (arith, w)

  pub ends_fit : (more : ℕ) → more ≡ length old.lens → truncated + more ≤ length message
  ends_fit more long = let w = weight_of_stack in let few = going.few in omega (arith, w, few, long)

  module _ (new : PartsValue) (part : List ℕ) (after : List PartsValue)
      (is : parts_in old.lens old.bytes ≡ part ∷ parts_in new.lens new.bytes)
      (same : truncated_in new.lens new.bytes ≡ truncated_in old.lens old.bytes)
      (one : length old.lens ≡ suc (length new.lens)) (bytes : old.bytes ≡ part ++ new.bytes)
      (put : after ≡ ps ++ new ∷ []) where
    weight_of_after : weight after ≡ suc (length new.lens + length new.bytes) + weight ps
    weight_of_after = ap weight put ∙ weight-last ps new

    length_of_old : length old.bytes ≡ length part + length new.bytes
    length_of_old = ap (λ (bs : List ℕ). length bs) bytes ∙ length-append part new.bytes

    pub leaf_smaller : weight after < weight stack
    leaf_smaller = let w = weight_of_stack in let v = weight_of_after in let l = length_of_old in omega (arith, w, v, l, one)

    pub going_leaf : (more : List (List ℕ)) → compound_of part ≡ None → more ≡ taken ++ part ∷ [] → Going message more truncated after
    going_leaf more none_in added =
        let smaller = leaf_smaller in
        let few = going.few in
        record {
          goes = subst (λ (xs : List (List ℕ)). Goes message xs truncated after) (sym added)
              (subst (λ (qs : List PartsValue). Goes message (taken ++ part ∷ []) truncated qs) (sym put)
              (taken_leaf message taken truncated ps old new part is same none_in goes_of_stack));
          few = omega (arith, smaller, few);
        }

    module _ (inner : PartsValue) (deeper : List PartsValue) (some_in : compound_of part ≡ Some inner)
        (pushed : deeper ≡ after ++ inner ∷ []) where
      pub compound_smaller : weight deeper < weight stack
      compound_smaller =
          let w = weight_of_stack in
          let v = weight_of_after in
          let l = length_of_old in
          let d : weight deeper ≡ suc (length inner.lens + length inner.bytes) + weight after = ap weight
          pushed ∙ weight-last after inner in
          let c = weight_of_compound part inner some_in in
          omega (arith, w, v, l, one, d, c)

      pub going_compound : Going message taken truncated deeper
      going_compound =
          let smaller = compound_smaller in
          let few = going.few in
          let whole : deeper ≡ (ps ++ new ∷ []) ++ inner ∷ [] = pushed ∙ ap (λ (qs : List PartsValue). qs ++ inner ∷ []) put in
          record {
            goes = subst (λ (qs : List PartsValue). Goes message taken truncated qs) (sym whole)
                (taken_compound message taken truncated ps old new inner part is same some_in goes_of_stack);
            few = omega (arith, smaller, few);
          }

pub going_done : (message : List ℕ) (taken : List (List ℕ)) (truncated : ℕ) (stack : List PartsValue)
    → Going message taken truncated stack → stack ≡ []
    → AreLeaves (message ∷ []) taken truncated
going_done message taken truncated stack going done =
    all_taken message taken truncated (subst (λ (qs : List PartsValue). Goes message taken truncated qs) done going.goes)
