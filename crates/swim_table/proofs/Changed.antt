-- Each step of the search for what a join changes.
use Rattle.std.proofs.Common.{◌≡◌, ◌≢◌, ◌↔◌, ◌⊎◌, ℕ, Option, Some, None, IsSome, List, [], ◌∷◌, ◌++◌, MatchOption, Bool}
use Rattle.std.proofs.Common.{true, false, IsTrue, MatchBool, refl, sym, ap, subst, ◌∙◌, inl, inr}
use mathlib.Core.Bool.{false≢true, not}
use Rattle.swim_claim.specs.declared.claim.Claim.{Claim}
use Rattle.swim_claim.specs.Claim.{name_of}
use Rattle.swim_table.specs.Standing.{Standing}
use Rattle.swim_table.specs.Table.{Entries, get, IsAscending, TableOf, Reduced}
use Rattle.swim_table.specs.Join.{joined, Join, standing_of}
use Rattle.swim_table.specs.Covering.{IsCovered}
use Rattle.swim_table.specs.News.{AreChanges, HasAlso}
use Rattle.swim_table.proofs.Lookups.{IsAscending-head, IsAscending-tail, get_below, get_cases, get_here, joined_both}
use Rattle.swim_table.proofs.Lookups.{joined-none, same_table}
use Rattle.swim_table.proofs.Covering.{covered_nil}
use Rattle.swim_table.proofs.Tables.{get-append, standing_of_top, TableOf-Join, TableOf-one, TableOf-table_of}

some_case : (o : Option Standing) (P Q : Type 0) → IsSome o → Q → MatchOption o P (λ _. Q)
some_case None P Q is q = absurd cc
some_case (Some s) P Q is q = q

pub map_case : (o : Option Standing) (P P' Q Q' : Type 0) → (P → P') → (Q → Q') → MatchOption o P (λ _. Q) → MatchOption o P' (λ _. Q')
map_case None P P' Q Q' f g h = f h
map_case (Some s) P P' Q Q' f g h = g h

kept_case : (o o' : Option Standing) (P P' Q R : Type 0) → IsSome o' ↔ (IsSome o ⊎ R) → ¬ R → (P → P')
    → MatchOption o P (λ _. Q) → MatchOption o' P' (λ _. Q)
kept_case None None P P' Q R is not f h = f h
kept_case None (Some t) P P' Q R is not f h = elim (is.0 refl) [ inl one ↦ absurd cc | inr other ↦ absurd (not other) ]
kept_case (Some s) None P P' Q R is not f h = let some = is.1 (inl refl) in absurd (cc (some))
kept_case (Some s) (Some t) P P' Q R is not f h = h

-- the join of two tables has about a name what both have
pub get-Join : (table other : Entries) → TableOf table (Reduced table) → TableOf other (Reduced other) → (name : List ℕ)
    → get (Join table other) name ≡ joined (get table name) (get other name)
get-Join table other h g =
    get-append (Join table other) table other (Reduced table) (Reduced other) (TableOf-table_of (Reduced table ++ Reduced other)) h g

-- a join changes a table unless the table covers the other one
pub covered_is_unchanged : (table other : Entries) → TableOf table (Reduced table) → TableOf other (Reduced other)
    → IsCovered other table ↔ (Join table other ≡ table)
covered_is_unchanged table other h g = (
  λ covered. same_table (Join table other) table (TableOf-table_of (Reduced table ++ Reduced other)).ascending h.ascending
      (λ name. get-Join table other h g name ∙ covered name),
  λ same name. sym (get-Join table other h g name) ∙ ap (λ t. get t name) same,
)

-- a table of no claims changes nothing
pub join_of_none : (table other : Entries) → TableOf table (Reduced table) → other ≡ [] → Join table other ≡ table
join_of_none table other h none =
    subst (λ t. Join table t ≡ table) (sym none) ((covered_is_unchanged table [] h (TableOf-table_of [])).0 (covered_nil table))

pub took_none : (table other : Entries) (claims others : List Claim) → TableOf table (Reduced table) → other ≡ [] → TableOf table claims
    → TableOf other others → TableOf table (claims ++ others)
took_none table other claims others h none of also =
    subst (λ t. TableOf t (claims ++ others)) (join_of_none table other h none) (TableOf-Join table other claims others of also)

pub told_by_covering : (table other : Entries) → TableOf table (Reduced table) → TableOf other (Reduced other)
    → (covered : Bool) → IsTrue covered ↔ IsCovered other table
    → MatchBool (not covered) (Join table other ≢ table) (Join table other ≡ table)
told_by_covering table other h g true is = (covered_is_unchanged table other h g).0 (is.0 refl)
told_by_covering table other h g false is = λ same. false≢true (is.1 ((covered_is_unchanged table other h g).1 same))

-- one more claim adds its name
pub also_noted : (before after : Entries) (c : Claim) → TableOf before (Reduced before) → TableOf after (Reduced before ++ c ∷ [])
    → HasAlso (name_of c) before after
also_noted before after c h w name = elim (get_cases (standing_of c) [] name) [
  | inl here ↦
      (let is = gets ∙ joined_both refl here.1 in
      (λ _. inr (here.0 ∙ named), λ _. some (get before name) (standing_of c) (get after name) is))
  | inr later ↦
      (let is = gets ∙ joined_both refl later.1 ∙ joined-none (get before name) in (
        λ some. inl (subst IsSome is some),
        λ had. elim had [
          | inl one ↦ subst IsSome (sym is) one
          | inr same ↦ absurd
              (later.0 (same ∙ sym named))
        ],
      ))
]
  where
    named : name_of (standing_of c).top ≡ name_of c
    named = ap name_of (standing_of_top c)

    gets : get after name ≡ joined (get before name) (get (standing_of c ∷ []) name)
    gets = get-append after before (standing_of c ∷ []) (Reduced before) (c ∷ []) w h (TableOf-one c) name

    some : (o : Option Standing) (s : Standing) (o' : Option Standing) → o' ≡ joined o (Some s) → IsSome o'
    some None s o' is = subst IsSome (sym is) refl
    some (Some t) s o' is = subst IsSome (sym is) refl

-- what joining changes about a name: with the other table, and with one entry of it
abbrev pub IsChanged : Option Standing → Option Standing → Type 0
IsChanged own theirs = joined own theirs ≢ own

-- the names found so far are those that change, except for what is left of the other table
pub record IsSearching (table other news rest : Entries) : Type 0 where
  pub own : TableOf news (Reduced news)
  pub ascending : IsAscending rest
  pub left : (name : List ℕ) → IsSome (get rest name) → get other name ≡ get rest name
  pub found : (name : List ℕ) → MatchOption (get news name)
      ((get other name ≡ get rest name) ⊎ (joined (get table name) (get other name) ≡ get table name))
      (λ _. IsChanged (get table name) (get other name))

pub searching_start : (table other : Entries) → IsAscending other → IsSearching table other [] other
searching_start table other up = record { own = TableOf-table_of []; ascending = up; left = λ name some. refl; found = λ name. inl refl }

pub searching_end : (table other news : Entries) → TableOf table (Reduced table) → TableOf other (Reduced other)
    → IsSearching table other news [] → AreChanges table (Join table other) news
searching_end table other news h g w name =
    let is = get-Join table other h g name in
    map_case (get news name) _ _ _ _
    (λ why. elim why [
      | inl none ↦ is ∙ joined_both refl none ∙ joined-none (get table name)
      | inr same ↦ is ∙ same
    ])
    (λ changed same. changed (sym is ∙ same))
    (w.found name)

-- nothing that changes was found
pub unchanged_end : (table other : Entries) → TableOf table (Reduced table) → TableOf other (Reduced other)
    → IsSearching table other [] [] → Join table other ≡ table
unchanged_end table other h g w =
    same_table (Join table other) table (TableOf-table_of (Reduced table ++ Reduced other)).ascending h.ascending
    (λ name. let same : get (Join table other) name ≡ get table name = searching_end table other [] h g w name in same)

module _ (table other news : Entries) (e : Standing) (rest : Entries) (w : IsSearching table other news (e ∷ rest)) where
  up : IsAscending rest
  up = IsAscending-tail e rest w.ascending

  -- the entry's name is not in the rest
  nowhere : (name : List ℕ) → name ≡ name_of e.top → get rest name ≡ None
  nowhere name is = ap (get rest) is ∙ get_below rest (name_of e.top) (IsAscending-head e rest w.ascending)

  stays_left : (name : List ℕ) → IsSome (get rest name) → get other name ≡ get rest name
  stays_left name some = elim (get_cases e rest name) [
    | inl here ↦ (let none = nowhere name here.0 in absurd (cc (some, none)))
    | inr later ↦ w.left name (subst IsSome (sym later.1) some) ∙ later.1
  ]

  theirs : (name : List ℕ) → name ≡ name_of e.top → get other name ≡ Some e
  theirs name is = let here = get_here e rest name is in w.left name (subst IsSome (sym here) refl) ∙ here

  pub searching_noted : (after : Entries) → TableOf after (Reduced after)
      → (TableOf news (Reduced news) → HasAlso (name_of e.top) news after)
      → IsChanged (get table (name_of e.top)) (Some e) → IsSearching table other after rest
  searching_noted after own adds changed = let also = adds w.own in record {
    own = own;
    ascending = up;
    left = stays_left;
    found = λ name. elim (get_cases e rest name) [
      | inl here ↦
          some_case (get after name) _ _ ((also name).1 (inr here.0))
          (subst (λ o. IsChanged (get table name) o) (sym (theirs name here.0))
          (subst (λ n. IsChanged (get table n) (Some e)) (sym here.0) changed))
      | inr later ↦ kept_case (get news name) (get after name) _ _ _ _ (also name) later.0 (λ why. again name later.1 why) (w.found name)
    ];
  }
    where
      again : (name : List ℕ) → get (e ∷ rest) name ≡ get rest name
          → (get other name ≡ get (e ∷ rest) name) ⊎ (joined (get table name) (get other name) ≡ get table name)
          → (get other name ≡ get rest name) ⊎ (joined (get table name) (get other name) ≡ get table name)
      again name is (inl same) = inl (same ∙ is)
      again name is (inr same) = inr same

  pub searching_passed : joined (get table (name_of e.top)) (Some e) ≡ get table (name_of e.top) → IsSearching table other news rest
  searching_passed same = record {
    own = w.own;
    ascending = up;
    left = stays_left;
    found = λ name. map_case (get news name) _ _ _ _ (again name (get_cases e rest name)) (λ c. c) (w.found name);
  }
    where
      again : (name : List ℕ)
          → ((name ≡ name_of e.top) × (get (e ∷ rest) name ≡ Some e)) ⊎ ((name ≢ name_of e.top) × (get (e ∷ rest) name ≡ get rest name))
          → (get other name ≡ get (e ∷ rest) name) ⊎ (joined (get table name) (get other name) ≡ get table name)
          → (get other name ≡ get rest name) ⊎ (joined (get table name) (get other name) ≡ get table name)
      again name (inl here) why =
          inr (joined_both refl (theirs name here.0) ∙ subst (λ n. joined (get table n) (Some e) ≡ get table n) (sym here.0) same)
      again name (inr later) (inl is) = inl (is ∙ later.1)
      again name (inr later) (inr is) = inr is

  -- the entry changes the table
  pub changed_here : TableOf table (Reduced table) → TableOf other (Reduced other)
      → IsChanged (get table (name_of e.top)) (Some e) → Join table other ≢ table
  changed_here h g changed same =
      let here = joined_both refl (theirs (name_of e.top) refl) in
      changed (sym here ∙ sym (get-Join table other h g (name_of e.top)) ∙ ap (λ t. get t (name_of e.top)) same)
