-- Suspects, each once.
use Rattle.std.proofs.Common.{◌≡◌, ◌≢◌, length-append, ℕ, ◌+◌, ◌<◌, ◌≤◌, Bool, true, false, cond, List, [], ◌∷◌, ◌++◌, length, get_or, Some, refl, sym, subst, ap, ◌∙◌, arith}
use Rattle.std.specs.List.{count_by, position, swap_remove}
use Rattle.std.proofs.lemmas.List.Quantifiers.{position-Some}
use Rattle.std.proofs.lemmas.List.Sums.{sum_by-append, sum_by-cons, sum_by-swap_remove}
use Rattle.std.proofs.lemmas.Map.Text.{is_eq-slice_cmp}
use Rattle.std.proofs.lemmas.Slice.Eq.{bytes_eq-Decides}
use Rattle.memberlist_member.specs.declared.suspicions.Suspect.{Suspect}
use Rattle.std.specs.Prelude.{⊤, Result, Ok, Err, OnOk, OnErr}
use Rattle.std.specs.declared.alloc.AllocError.{AllocError}
use Rattle.memberlist_member.specs.Suspects.{GrowsByAtMost, is_suspect}

-- each name at most once
abbrev pub AreOnce : List Suspect → Type 0
AreOnce xs = (name : List ℕ) → count_by (is_suspect name) xs ≤ 1

-- how much one of them counts
abbrev pub one_of : List ℕ → Suspect → ℕ
one_of name s = cond (is_suspect name s) 1 0

pub once_swapped : (xs : List Suspect) (k : ℕ) (d : Suspect) → k < length xs → AreOnce xs → AreOnce (swap_remove xs k d)
once_swapped xs k d less once name = omega (arith, sum_by-swap_remove (one_of name) xs k d less, once name)

pub none_swapped : (xs : List Suspect) (name : List ℕ) (k : ℕ) (d : Suspect) → position (is_suspect name) xs ≡ Some k
    → AreOnce xs → count_by (is_suspect name) (swap_remove xs k d) ≡ 0
none_swapped xs name k d is once =
    let (less, passes, below) = position-Some (is_suspect name) xs k d is in
    let one : one_of name (get_or xs k d) ≡ 1 = ap (λ t. cond t 1 0) passes in
    omega (arith, sum_by-swap_remove (one_of name) xs k d less, once name, one)

-- the one at the place of its name
pub once_there : (xs : List Suspect) (name : List ℕ) (k : ℕ) (d : Suspect) → position (is_suspect name) xs ≡ Some k → AreOnce xs
    → count_by (is_suspect name) xs ≡ 1
once_there xs name k d is once =
    let (less, passes, below) = position-Some (is_suspect name) xs k d is in
    let one : one_of name (get_or xs k d) ≡ 1 = ap (λ t. cond t 1 0) passes in
    omega (arith, sum_by-swap_remove (one_of name) xs k d less, once name, one)

pub once_at : (xs : List Suspect) (name : List ℕ) (k : ℕ) → position (is_suspect name) xs ≡ Some k → AreOnce xs
    → count_by (is_suspect name) xs ≡ 1
once_at [] name k is once = absurd (cc (is))
once_at (x ∷ xs) name k is once = once_there (x ∷ xs) name k x is once

-- without it there are as many of each other one
pub others_swapped : (xs : List Suspect) (name : List ℕ) (k : ℕ) (d : Suspect) → position (is_suspect name) xs ≡ Some k
    → (other : List ℕ) → other ≢ name → count_by (is_suspect other) (swap_remove xs k d) ≡ count_by (is_suspect other) xs
others_swapped xs name k d is other differs =
    let (less, passes, below) = position-Some (is_suspect name) xs k d is in
    cases less passes (is_suspect other (get_or xs k d)) refl where
      cases : k < length xs → is_suspect name (get_or xs k d) ≡ true → (t : Bool) → is_suspect other (get_or xs k d) ≡ t
          → count_by (is_suspect other) (swap_remove xs k d) ≡ count_by (is_suspect other) xs
      cases less passes true it_too =
          let one_name : (get_or xs k d).name ≡ name = (bytes_eq-Decides (get_or xs k d).name name).0 (sym (is_eq-slice_cmp (get_or xs k d).name name) ∙ passes) in
          let other_name : (get_or xs k d).name ≡ other = (bytes_eq-Decides (get_or xs k d).name other).0 (sym (is_eq-slice_cmp (get_or xs k d).name other) ∙ it_too) in
          absurd (differs (sym other_name ∙ one_name))
      cases less passes false not_it =
          let none : one_of other (get_or xs k d) ≡ 0 = ap (λ t. cond t 1 0) not_it in
          omega (arith, sum_by-swap_remove (one_of other) xs k d less, none)

pub one_itself : (s : Suspect) → one_of s.name s ≡ 1
one_itself s = ap (λ t. cond t 1 0) (is_eq-slice_cmp s.name s.name ∙ (bytes_eq-Decides s.name s.name).1 refl)

pub once_pushed : (xs : List Suspect) (s : Suspect) → count_by (is_suspect s.name) xs ≡ 0 → AreOnce xs → AreOnce (xs ++ s ∷ [])
once_pushed xs s none once name = cases (is_suspect name s) refl where
  more : count_by (is_suspect name) (xs ++ s ∷ []) ≡ count_by (is_suspect name) xs + one_of name s
  more = sum_by-append (one_of name) xs (s ∷ []) ∙ ap (λ n. count_by (is_suspect name) xs + n) (sum_by-cons (one_of name) s [] ∙ (let e : one_of name s + 0 ≡ one_of name s = omega arith in e))

  cases : (t : Bool) → is_suspect name s ≡ t → count_by (is_suspect name) (xs ++ s ∷ []) ≤ 1
  cases true is =
      let same : s.name ≡ name = (bytes_eq-Decides s.name name).0 (sym (is_eq-slice_cmp s.name name) ∙ is) in
      let there : count_by (is_suspect name) xs ≡ 0 = subst (λ n. count_by (is_suspect n) xs ≡ 0) same none in
      let here : one_of name s ≡ 1 = ap (λ t. cond t 1 0) is in
      omega (arith, more, there, here)
  cases false is =
      let here : one_of name s ≡ 0 = ap (λ t. cond t 1 0) is in
      omega (arith, more, once name, here)

-- one with a name that none had was added, if there was memory
pub grows_by_one : (xs ys : List Suspect) (s : Suspect) (result : Result ⊤ AllocError) → OnOk result (ys ≡ xs ++ s ∷ [])
    → OnErr result (ys ≡ xs) → count_by (is_suspect s.name) xs ≡ 0 → GrowsByAtMost s.name xs ys
grows_by_one xs ys s (Ok done) more same none =
    let here = one_itself s in
    let counts = sum_by-append (one_of s.name) xs (s ∷ []) in
    let last = sum_by-cons (one_of s.name) s [] in
    let long = length-append xs (s ∷ []) in
    subst (GrowsByAtMost s.name xs) (sym more) (omega (arith, here, counts, last, long, none))
grows_by_one xs ys s (Err error) more same none = subst (GrowsByAtMost s.name xs) (sym same) (omega arith)

pub is_there : (xs ys : List Suspect) (s : Suspect) (result : Result ⊤ AllocError) → OnOk result (ys ≡ xs ++ s ∷ [])
    → OnOk result (1 ≤ count_by (is_suspect s.name) ys)
is_there xs ys s (Ok done) more =
    let here = one_itself s in
    let counts = sum_by-append (one_of s.name) xs (s ∷ []) in
    let last = sum_by-cons (one_of s.name) s [] in
    subst (λ zs. 1 ≤ count_by (is_suspect s.name) zs) (sym more) (omega (arith, here, counts, last))
is_there xs ys s (Err error) more = tt

-- whether it was pushed or not
pub once_either : (b : Bool) (xs : List Suspect) (s : Suspect) → count_by (is_suspect s.name) xs ≡ 0 → AreOnce xs
    → AreOnce (cond b (xs ++ s ∷ []) xs)
once_either true xs s none once = once_pushed xs s none once
once_either false xs s none once = once
