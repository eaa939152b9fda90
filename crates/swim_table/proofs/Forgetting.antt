-- A table without a name.
use Rattle.std.proofs.Common.{◌≡◌, ◌≢◌, ℕ, zero, suc, ◌⊎◌, inl, inr, Bool, true, false, not, cond, Option, Some, None}
use Rattle.std.proofs.Common.{List, [], ◌∷◌, Contains, refl, sym, ap, subst, ◌∙◌, arith, true≢false}
use Rattle.std.specs.List.{remove}
use Rattle.std.specs.Ordering.{is_eq}
use Rattle.std.specs.declared.cmp.Ordering.{Ordering}
use Rattle.std.specs.declared.cmp.Ordering.TheVariants.{Less, Equal, Greater}
use Rattle.std.proofs.lemmas.Cmp.{nat_list_cmp_total, tied_itself}
use Rattle.std.proofs.lemmas.List.Elements.{All-contains, All-contains_itself, All-filter, filter_passes}
use Rattle.std.proofs.lemmas.List.Elements.{Contains-append_left, Contains-append_right, Contains-append_cases}
use Rattle.std.proofs.lemmas.Map.Lookups.{exact_bytes}
use Rattle.swim_claim.specs.declared.claim.Claim.{Claim}
use Rattle.swim_claim.specs.Claim.{name_of, IsLegalClaim}
use Rattle.swim_table.specs.Standing.{Standing}
use Rattle.swim_table.specs.Table.{Entries, name_cmp, get, IsAscending, IsHomeOf, EntryOf, TableOf, Reduced, IsLegalTable, about_others}
use Rattle.swim_table.specs.Place.{IsAt, IsGapFor}
use Rattle.swim_table.proofs.Lookups.{only_one, get_cases, get_here, get_later, get_below, IsBelowAll, IsAscending-head}
use Rattle.swim_table.proofs.Lookups.{IsAscending-tail, IsAscending-cons, IsAscending-nil}
use Rattle.swim_table.proofs.Place.{less_at, get_in_gap}
use Rattle.swim_table.proofs.Tables.{EntryOf-unique}
use Rattle.swim_table.proofs.Taking.{legal_table}

-- ---- the claims about other names

abbrev pub is_other : List ℕ → Claim → Bool
is_other name c = not (is_eq (name_cmp name (name_of c)))

is_other-from : (name : List ℕ) (c : Claim) → name_of c ≢ name → is_other name c ≡ true
is_other-from name c other = by_answer (name_cmp name (name_of c)) refl
  where
    by_answer : (o : Ordering) → name_cmp name (name_of c) ≡ o → not (is_eq o) ≡ true
    by_answer Less e = refl
    by_answer Equal e = absurd (other (sym (exact_bytes name (name_of c) e)))
    by_answer Greater e = refl

differs : (name : List ℕ) (c : Claim) → is_other name c ≡ true → name_of c ≢ name
differs name c passes same =
    let tied : name_cmp name (name_of c) ≡ Equal = ap (name_cmp name) same ∙ tied_itself nat_list_cmp_total name in
    true≢false (sym passes ∙ ap (λ o. not (is_eq o)) tied)

module _ (name : List ℕ) (claims : List Claim) where
  within : (c : Claim) → Contains (about_others name claims) c → Contains claims c
  within c =
      All-contains (Contains claims) (about_others name claims) c
      (All-filter (is_other name) (Contains claims) claims (All-contains_itself claims))

  other_named : (c : Claim) → Contains (about_others name claims) c → name_of c ≢ name
  other_named c made =
      differs name c (All-contains (λ d. is_other name d ≡ true) (about_others name claims) c (filter_passes (is_other name) claims) made)

stays : (name : List ℕ) (claims : List Claim) (c : Claim) → Contains claims c → name_of c ≢ name → Contains (about_others name claims) c
stays name [] c made other = absurd (omega (arith, made.1))
stays name (d ∷ claims) c made other = by_test (is_other name d) refl (Contains-append_cases (d ∷ []) claims c made) (stays name claims c)
  where
    by_test : (b : Bool) → is_other name d ≡ b → Contains (d ∷ []) c ⊎ Contains claims c →
        (Contains claims c → name_of c ≢ name → Contains (about_others name claims) c)
        → Contains (cond b (d ∷ about_others name claims) (about_others name claims)) c
    by_test true e (inl first) again = Contains-append_left (d ∷ []) (about_others name claims) c first
    by_test true e (inr later) again = Contains-append_right (d ∷ []) (about_others name claims) c (again later other)
    by_test false e (inl first) again =
        let passes = subst (λ x. is_other name x ≡ true) (sym (only_one d c first)) (is_other-from name c other) in
        absurd (true≢false (sym passes ∙ e))
    by_test false e (inr later) again = again later other

-- they say nothing about the name
EntryOf-none : (name : List ℕ) (claims : List Claim) → EntryOf (about_others name claims) name None
EntryOf-none name claims = other_named name claims

-- and about another name what all claims say about it
IsHomeOf-others : (name n : List ℕ) (claims : List Claim) (o : Option Claim) → n ≢ name → IsHomeOf claims n o
    → IsHomeOf (about_others name claims) n o
IsHomeOf-others name n claims None other h = λ c made. h c (within name claims c made)
IsHomeOf-others name n claims (Some a) other h = (
  h.0,
  record {
    alive = h.1.alive;
    made = stays name claims a h.1.made (λ same. other (sym h.0 ∙ same));
    greatest = λ b made. h.1.greatest b (within name claims b made);
  },
)

EntryOf-others : (name n : List ℕ) (claims : List Claim) (o : Option Standing) → n ≢ name
    → EntryOf claims n o → EntryOf (about_others name claims) n o
EntryOf-others name n claims None other h = λ c made. h c (within name claims c made)
EntryOf-others name n claims (Some s) other h = record {
  about = h.about;
  top =
      record {
        made = stays name claims s.top h.top.made (λ same. other (sym h.about ∙ same));
        greatest = λ d made. h.top.greatest d (within name claims d made);
      };
  home = IsHomeOf-others name n claims s.home other h.home;
}

-- so a table without the name is the table of them
TableOf-others : (table whole : Entries) (name : List ℕ) (claims : List Claim) → IsAscending whole → get whole name ≡ None →
    ((n : List ℕ) → n ≢ name → get whole n ≡ get table n) → TableOf table claims → TableOf whole (about_others name claims)
TableOf-others table whole name claims up none same h = record { ascending = up; each = λ n. by_answer n (name_cmp name n) refl }
  where
    other_than : (n : List ℕ) (o : Ordering) → o ≢ Equal → name_cmp name n ≡ o → n ≢ name
    other_than n o unequal e is = unequal (sym e ∙ ap (name_cmp name) is ∙ tied_itself nat_list_cmp_total name)

    of_other : (n : List ℕ) → n ≢ name → EntryOf (about_others name claims) n (get whole n)
    of_other n other = subst (EntryOf (about_others name claims) n) (sym (same n other))
        (EntryOf-others name n claims (get table n) other (h.each n))

    by_answer : (n : List ℕ) (o : Ordering) → name_cmp name n ≡ o → EntryOf (about_others name claims) n (get whole n)
    by_answer n Less e = of_other n (other_than n Less (λ h. cc) e)
    by_answer n Equal e =
        subst (λ m. EntryOf (about_others name claims) m (get whole m)) (exact_bytes name n e)
        (subst (EntryOf (about_others name claims) name) (sym none) (EntryOf-none name claims))
    by_answer n Greater e = of_other n (other_than n Greater (λ h. cc) e)

-- ---- the laws

pub forgotten : (table : Entries) (claims : List Claim) (name : List ℕ) → TableOf table (about_others name claims) → get table name ≡ None
forgotten table claims name h =
    let others = about_others name claims in
    EntryOf-unique others others name (get table name) None (λ c made. made) (λ c made. made) (h.each name) (EntryOf-none name claims)

pub others_stay : (table other : Entries) (claims : List Claim) (name n : List ℕ) → TableOf table claims → TableOf other
    (about_others name claims) → n ≢ name → get other n ≡ get table n
others_stay table other claims name n h g differ =
    let others = about_others name claims in
    EntryOf-unique others others n (get other n) (get table n) (λ c made. made) (λ c made. made) (g.each n)
    (EntryOf-others name n claims (get table n) differ (h.each n))

-- ---- the removal of an entry

IsBelowAll-remove : (table : Entries) (i : ℕ) (name : List ℕ) → IsBelowAll name table → IsBelowAll name (remove table i)
IsBelowAll-remove [] zero name all = tt
IsBelowAll-remove [] (suc i) name all = tt
IsBelowAll-remove (entry ∷ rest) zero name all = all.1
IsBelowAll-remove (entry ∷ rest) (suc i) name all = (all.0, IsBelowAll-remove rest i name all.1)

IsAscending-remove : (table : Entries) (i : ℕ) → IsAscending table → IsAscending (remove table i)
IsAscending-remove [] zero up = IsAscending-nil
IsAscending-remove [] (suc i) up = IsAscending-nil
IsAscending-remove (entry ∷ rest) zero up = IsAscending-tail entry rest up
IsAscending-remove (entry ∷ rest) (suc i) up =
    IsAscending-cons entry (remove rest i) (IsBelowAll-remove rest i (name_of entry.top) (IsAscending-head entry rest up))
    (IsAscending-remove rest i (IsAscending-tail entry rest up))

later_at : (entry : Standing) (rest : Entries) (name : List ℕ) (i : ℕ) → IsAt (entry ∷ rest) name (suc i) → IsAt rest name i
later_at entry rest name i at = record { in_range = omega (arith, at.in_range); has_name = at.has_name }

-- the first entry has another name than a later one
first_differs : (entry : Standing) (rest : Entries) (name : List ℕ) (i : ℕ) → IsAscending (entry ∷ rest) → IsAt
    (entry ∷ rest) name (suc i) → name ≢ name_of entry.top
first_differs entry rest name i up at same =
    let less = less_at (entry ∷ rest) 0 (suc i) entry up (omega arith) at.in_range in
    let itself : name_cmp name name ≡ Less = subst
    (λ n. name_cmp n name ≡ Less) (sym same)
    (subst (λ n. name_cmp (name_of entry.top) n ≡ Less) (at.has_name entry) less) in
    let tied = tied_itself nat_list_cmp_total name in
    cc (itself, tied)

get-removed : (table : Entries) (name : List ℕ) (i : ℕ) → IsAscending table → IsAt table name i → get (remove table i) name ≡ None
get-removed [] name i up at = absurd (omega (arith, at.in_range))
get-removed (entry ∷ rest) name zero up at =
    get_below rest name (subst (λ n. IsBelowAll n rest) (at.has_name entry) (IsAscending-head entry rest up))
get-removed (entry ∷ rest) name (suc i) up at =
    get_later entry (remove rest i) name (first_differs entry rest name i up at)
    ∙ get-removed rest name i (IsAscending-tail entry rest up) (later_at entry rest name i at)

get-left : (table : Entries) (name : List ℕ) (i : ℕ) → IsAt table name i → (n : List ℕ) → n ≢ name → get (remove table i) n ≡ get table n
get-left [] name i at n other = absurd (omega (arith, at.in_range))
get-left (entry ∷ rest) name zero at n other = sym (get_later entry rest n (λ same. other (same ∙ at.has_name entry)))
get-left (entry ∷ rest) name (suc i) at n other = by_cases
    (get-left rest name i (later_at entry rest name i at) n other) (get_cases entry rest n)
  where
    by_cases : get (remove rest i) n ≡ get rest n →
        ((n ≡ name_of entry.top) × (get (entry ∷ rest) n ≡ Some entry)) ⊎
        ((n ≢ name_of entry.top) × (get (entry ∷ rest) n ≡ get rest n))
        → get (entry ∷ remove rest i) n ≡ get (entry ∷ rest) n
    by_cases again (inl here) = get_here entry (remove rest i) n here.0 ∙ sym here.1
    by_cases again (inr later) = get_later entry (remove rest i) n later.0 ∙ again ∙ sym later.1

-- the new table is the table of the claims about other names, whatever the old one was a table of
pub record IsForgotten (old new : Entries) (name : List ℕ) : Type 0 where
  pub legal : IsLegalTable new
  pub all : (claims : List Claim) → TableOf old claims → TableOf new (about_others name claims)

forgotten_by : (old new : Entries) (name : List ℕ) → IsLegalTable old → IsAscending new → get new name ≡ None →
    ((n : List ℕ) → n ≢ name → get new n ≡ get old n) → IsForgotten old new name
forgotten_by old new name legal up none same =
    let all = λ (claims : List Claim) (h : TableOf old claims). TableOf-others old new name claims up none same h in
    record {
      legal =
          legal_table new (about_others name (Reduced old)) (all (Reduced old) legal.own)
          (All-filter (is_other name) IsLegalClaim (Reduced old) legal.claims);
      all = all;
    }

-- the same if the entry at the place of the name was removed
pub entry_forgotten : (entries old new : Entries) (name : List ℕ) (i : ℕ) → entries ≡ old → IsLegalTable entries → IsAt entries name i
    → new ≡ remove entries i → IsForgotten old new name
entry_forgotten entries old new name i view legal at is =
    let up = legal.own.ascending in
    subst (λ t. IsForgotten t new name) view
    (forgotten_by entries new name legal (subst IsAscending (sym is) (IsAscending-remove entries i up))
    (ap (λ t. get t name) is ∙ get-removed entries name i up at) (λ n other. ap (λ t. get t n) is ∙ get-left entries name i at n other))

pub entry_forgotten_kept : (entries old : Entries) (name : List ℕ) (i : ℕ) → entries ≡ old → IsLegalTable entries
    → IsAt entries name i → (new : Entries) → new ≡ remove entries i → TableOf new (about_others name (Reduced old))
entry_forgotten_kept entries old name i view legal at new is =
    (entry_forgotten entries old new name i view legal at is).all (Reduced old) (subst IsLegalTable view legal).own

-- and if there was none
pub none_forgotten : (entries old : Entries) (name : List ℕ) (i : ℕ) → entries ≡ old → IsLegalTable entries → IsGapFor entries name i
    → IsForgotten old old name
none_forgotten entries old name i view legal gap =
    subst (λ t. IsForgotten t t name) view
    (forgotten_by entries entries name legal legal.own.ascending (get_in_gap entries name i gap) (λ n _. refl))
