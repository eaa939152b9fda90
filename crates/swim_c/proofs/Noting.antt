-- Noting the names that change.
use Rattle.std.proofs.Common.{◌≡◌, ◌≢◌, ◌↔◌, ◌⊎◌, ◌∙◌, ℕ, Bool, true, false, not, IsTrue, Option, Some, None, IsSome}
use Rattle.std.proofs.Common.{List, [], ◌∷◌, ◌++◌, MatchOption, MatchBool, Result, Ok, Err, IfOk, IfSome, OnOk}
use Rattle.std.proofs.Common.{slice_get, refl, sym, ap, subst, inl, inr, arith}
use Rattle.std.proofs.lemmas.List.Elements.{Contains-append_right}
use mathlib.Core.Bool.{false≢true}
use Rattle.swim_claim.specs.declared.claim.Claim.{Claim}
use Rattle.swim_claim.specs.declared.claim.Claim.TheVariants.{Alive}
use Rattle.swim_claim.specs.Claim.{name_of}
use Rattle.swim_table.specs.Join.{Join, joined, standing_of}
use Rattle.swim_table.specs.News.{AreChanges, HasAlso}
use Rattle.swim_table.specs.Node.{NodeValue}
use Rattle.swim_table.specs.Refuting.{IsAtRest, IsDueInRange, IsRefutedBy}
use Rattle.swim_table.specs.Standing.{Standing}
use Rattle.swim_table.specs.Table.{Entries, get, IsAscending, IsLegalTable, IsStandingOf, EntryOf, TableOf, Reduced, about_others}
use Rattle.swim_table.proofs.Changed.{get-Join, also_noted}
use Rattle.swim_table.proofs.Forgetting.{forgotten, others_stay}
use Rattle.swim_table.proofs.Lookups.{get_cases, get_here, get_later, joined_both, joined-none, same_table}
use Rattle.swim_table.proofs.Refuting.{disputed_known}
use Rattle.swim_table.proofs.Tables.{TableOf-table_of, get-append, TableOf-one}
use Rattle.swim_c.specs.Forgetting.{LeavesOut}
use Rattle.swim_c.specs.Taking.{TakesClaims}
use Rattle.swim_c.specs.Watching.{AddsNames, IsNoted, LetsGo, Noted, NotesChanges, TellsChange, TellsNews, first_noted, next_entry}
use Rattle.swim_c.specs.declared.watching.Names.{Names}
use Rattle.swim_c.specs.declared.watching.Watched.{Watched}

some_joined : (a b : Option Standing) → IsSome (joined a b) ↔ (IsSome a ⊎ IsSome b)
some_joined None None = (λ some. inl some, λ some. elim some [ inl one ↦ one | inr other ↦ other ])
some_joined None (Some t) = (λ some. inr some, λ some. refl)
some_joined (Some s) None = (λ some. inl refl, λ some. refl)
some_joined (Some s) (Some t) = (λ some. inl refl, λ some. refl)

-- names that are joined to the noted ones are noted too
pub joined_names : (old new : Entries) (also : Names) → IsLegalTable old → IsLegalTable also.names → new ≡ Join old also.names
    → AddsNames (Some old) (Some new) (Some also)
joined_names old new also h g is name =
    let gets : get new name ≡ joined (get old name) (get also.names name) = ap
    (λ t. get t name) is ∙ get-Join old also.names h.own g.own name in
    let both = some_joined (get old name) (get also.names name) in
    (λ some. both.0 (subst IsSome gets some), λ some. subst IsSome (sym gets) (both.1 some))

changed : (o : Option Standing) (P Q : Type 0) → MatchOption o P (λ _. Q) → IsSome o → Q
changed None P Q h some = absurd cc
changed (Some s) P Q h some = h

found : (o : Option Standing) (P : Type 0) → MatchOption o P (λ _. ¬ P) → ¬ P → IsSome o
found None P h not = absurd (not h)
found (Some s) P h not = refl

-- if the names are those that changed, then the change is noted
pub noted : (old new : Option Entries) (before after : Entries) (named : Option Names)
    → IfSome named (λ also. AreChanges before after also.names)
    → AddsNames old new named → NotesChanges old new before after
noted None None before after named changes adds = tt
noted None (Some new) before after named changes adds = adds
noted (Some old) None before after named changes adds = adds
noted (Some old) (Some new) before after None changes adds = absurd adds
noted (Some old) (Some new) before after (Some also) changes adds = λ name. (
  λ some. elim ((adds name).0 some) [ inl had ↦ inl had | inr news ↦ inr (changed (get also.names name) _ _ (changes name) news) ],
  λ some. (adds name).1 (elim some [ inl had ↦ inl had | inr differs ↦ inr (found (get also.names name) _ (changes name) differs) ]),
)

-- what a join changed is noted with the names that it changed
pub noted_with : (old new before after other names : Entries) → IsLegalTable old → IsLegalTable names
    → new ≡ Join old names → after ≡ Join before other
    → AreChanges before (Join before other) names → NotesChanges (Some old) (Some new) before after
noted_with old new before after other names h g is joined changes =
    let also : Names = record { names = names; room = 0 } in
    noted (Some old) (Some new) before after (Some also)
    (subst (λ t. AreChanges before t names) (sym joined) changes) (joined_names old new also h g is)

-- nothing was to be noted
pub unchanged : (changes : Option Entries) (table : Entries) → NotesChanges changes changes table table
unchanged None table = tt
unchanged (Some names) table = λ name. (λ some. inl some, λ some. elim some [ inl had ↦ had | inr differs ↦ absurd (differs refl) ])

pub unwatched : (before after : Entries) → NotesChanges None None before after
unwatched before after = tt

-- there are names that changed exactly if the table did
pub tells : (news : Bool) (before after names : Entries) → IsAscending before → IsAscending after → AreChanges before after names
    → MatchBool news (names ≢ []) (names ≡ []) → TellsChange news before after
tells true before after [] up up' changes some = absurd (some refl)
tells true before after (e ∷ names) up up' changes some = λ same.
    changed (get (e ∷ names) (name_of e.top)) _ _ (changes (name_of e.top))
    (subst IsSome (sym (get_here e names (name_of e.top) refl)) refl)
    (ap (λ t. get t (name_of e.top)) same)
tells false before after names up up' changes none =
    same_table after before up' up
    (λ name. let none_of : MatchOption (get [] name) (get after name ≡ get before name) (λ _. get after name ≢ get before name) =
    subst (λ t. MatchOption (get t name) (get after name ≡ get before name)
    (λ _. get after name ≢ get before name)) none (changes name) in none_of)

-- a table that was joined in was taken in
pub taken : (before after other : Entries) (claims : List Claim) → IsLegalTable before → TableOf other claims
    → ((claims others : List Claim) → TableOf before claims → TableOf other others → TableOf after (claims ++ others))
    → TakesClaims claims before after
taken before after other claims legal of all = record {
  reduced = all (Reduced before) claims legal.own of;
  all = λ others is. all others claims is of;
}

-- the claims that a table of none takes in are its claims
pub from_none : (other : Entries) (claims : List Claim)
    → ((taken : List Claim) → TableOf [] taken → TableOf other (taken ++ claims)) → TableOf other claims
from_none other claims all = all [] (TableOf-table_of [])

-- what the join changed was noted, and whether anything changed
pub joined_noted : (old new : Option Entries) (before after other : Entries) (named : Option Names) → after ≡ Join before other
    → IfSome named (λ also. AreChanges before (Join before other) also.names) → AddsNames old new named → NotesChanges old new before after
joined_noted old new before after other named is changes adds =
    noted old new before after named (subst (λ t. IfSome named (λ also. AreChanges before t also.names)) (sym is) changes) adds

pub joined_tells : (news : Bool) (before after other : Entries) → after ≡ Join before other
    → TellsChange news before (Join before other) → TellsChange news before after
joined_tells news before after other is = subst (TellsChange news before) (sym is)

-- the join changes something if it changes a name
pub named_tells : (empty : Bool) (before other names : Entries) → IsLegalTable before → AreChanges before (Join before other) names
    → IsTrue empty ↔ (names ≡ []) → TellsChange (not empty) before (Join before other)
named_tells empty before other names h changes is =
    tells (not empty) before (Join before other) names h.own.ascending (TableOf-table_of (Reduced before ++ Reduced other)).ascending
    changes (either empty is)
  where
    either : (b : Bool) {P : Type 0} → IsTrue b ↔ P → MatchBool (not b) (¬ P) P
    either true same = same.0 refl
    either false same = λ p. false≢true (same.1 p)

-- ---- a refutation

standing : (table : Entries) (claims : List Claim) (name : List ℕ) (s : Standing) → TableOf table claims
    → get table name ≡ Some s → IsStandingOf claims name s
standing table claims name s h is = subst (EntryOf claims name) is (h.each name)

-- a refutation changes the entry of the member
own_changes : (before after : NodeValue) (inc : ℕ) → IsLegalTable before.table → IsRefutedBy before after inc
    → get after.table before.name ≢ get before.table before.name
own_changes before after inc legal by same = by_answer (get before.table before.name) refl (disputed_known before inc legal by.due)
  where
    alive : Claim
    alive = Alive before.name inc before.details

    by_answer : (o : Option Standing) → get before.table before.name ≡ o → IsSome o → ⊥
    by_answer None is some = absurd cc
    by_answer (Some s) is some =
        let was = standing before.table (Reduced before.table) before.name s legal.own is in
        let stays = standing after.table (Reduced before.table ++ alive ∷ []) before.name s by.taken.kept (same ∙ is) in
        stays.top.greatest alive (Contains-append_right (Reduced before.table) (alive ∷ []) alive (0, omega arith, refl)) (sym stays.about)
        (by.overrides.kept s.top was.top.made was.about)

-- and of no other
others_same : (before after : NodeValue) (inc : ℕ) → IsLegalTable before.table → IsRefutedBy before after inc → (name : List ℕ)
    → name ≢ before.name → get after.table name ≡ get before.table name
others_same before after inc legal by name other =
    let alive = Alive before.name inc before.details in
    get-append after.table before.table (standing_of alive ∷ []) (Reduced before.table)
    (alive ∷ []) by.taken.kept legal.own (TableOf-one alive) name
    ∙ joined_both refl (get_later (standing_of alive) [] name other) ∙ joined-none (get before.table name)

-- so only its name has to be noted
pub own_noted : (old new : Option Entries) (before after : NodeValue) (inc : ℕ) (named : Option Names) → IsLegalTable before.table
    → IsRefutedBy before after inc → IfSome named (λ also. (name : List ℕ) → IsSome (get also.names name) ↔ (name ≡ before.name))
    → AddsNames old new named → NotesChanges old new before.table after.table
own_noted None None before after inc named legal by own adds = tt
own_noted None (Some new) before after inc named legal by own adds = adds
own_noted (Some old) None before after inc named legal by own adds = adds
own_noted (Some old) (Some new) before after inc None legal by own adds = absurd adds
own_noted (Some old) (Some new) before after inc (Some also) legal by own adds = λ name. (
  λ some. elim ((adds name).0 some) [
    | inl had ↦ inl had
    | inr named ↦ inr (subst (λ n. get after.table n ≢ get before.table n) (sym ((own name).0 named))
        (own_changes before after inc legal by))
  ],
  λ some. (adds name).1 (elim some [
    | inl had ↦ inl had
    | inr differs ↦ inr ((own name).1 (it_is name differs (get_cases (standing_of (Alive before.name inc before.details)) [] name)))
  ]),
)
  where
    it_is : (name : List ℕ) → get after.table name ≢ get before.table name → {P Q : Type 0}
        → ((name ≡ before.name) × P) ⊎ ((name ≢ before.name) × Q) → name ≡ before.name
    it_is name differs (inl here) = here.0
    it_is name differs (inr other) = absurd (differs (others_same before after inc legal by name other.0))

-- one claim makes a table of its name
pub only_one_name : (names : Entries) (c : Claim) (own : List ℕ) → TableOf names ([] ++ c ∷ []) → name_of c ≡ own → (name : List ℕ)
    → IsSome (get names name) ↔ (name ≡ own)
only_one_name names c own h is name =
    let also = subst (λ n. HasAlso n [] names) is (also_noted [] names c (TableOf-table_of []) h) name in (
      λ some. elim (also.0 some) [ inl none ↦ absurd cc | inr same ↦ same ],
      λ same. also.1 (inr same),
    )

-- ---- the names that are returned

pub next_is : (table old : Entries) (e : Standing) (name : List ℕ) → slice_get old 0 ≡ Some e
    → name ≡ name_of e.top → next_entry table (Some old) ≡ get table name
next_is table [] e name is named = absurd cc
next_is table (f ∷ rest) e name is named = let same : f ≡ e = cc (is)
    in ap (λ s. get table (name_of s.top)) same ∙ ap (get table) (sym named)

pub next_none : (table old : Entries) → slice_get old 0 ≡ None → next_entry table (Some old) ≡ None
next_none table [] is = refl
next_none table (f ∷ rest) is = absurd cc

-- the first name was forgotten
pub lets_go : (old new : Entries) (e : Standing) (gone : List ℕ) → TableOf old (Reduced old) → slice_get old 0 ≡ Some e
    → gone ≡ name_of e.top → TableOf new (about_others gone (Reduced old)) → LetsGo (Some old) (Some new) 0
lets_go [] new e gone h is named left = absurd cc
lets_go (f ∷ rest) new e gone h is named left = record { done = λ zero. each; refused = λ other. absurd (other refl) }
  where
    first : gone ≡ name_of f.top
    first = let same : f ≡ e = cc (is) in named ∙ ap (λ s. name_of s.top) (sym same)

    stays : (name : List ℕ) → name ≢ gone → get new name ≡ get (f ∷ rest) name
    stays name other = others_stay (f ∷ rest) new (Reduced (f ∷ rest)) gone name h left other

    to : (name : List ℕ) → IsSome (get new name)
        → ((name ≡ name_of f.top) × (get (f ∷ rest) name ≡ Some f)) ⊎ ((name ≢ name_of f.top) × (get (f ∷ rest) name ≡ get rest name))
        → IsSome (get (f ∷ rest) name) × (Some (name_of f.top) ≢ Some name)
    to name some (inl here) =
        let none = forgotten new (Reduced (f ∷ rest)) gone left in
        let nowhere : get new name ≡ None = ap (get new) (here.0 ∙ sym first) ∙ none in
        absurd (cc (some, nowhere))
    to name some (inr later) = (
      subst IsSome (stays name (λ same. later.0 (same ∙ first))) some,
      λ same. (let is : name ≡ name_of f.top = cc (same) in later.0 is),
    )

    each : (name : List ℕ) → IsNoted (Some new) name ↔ (IsNoted (Some (f ∷ rest)) name × (first_noted (Some (f ∷ rest)) ≢ Some name))
    each name = (
      λ some. to name some (get_cases f rest name),
      λ had. subst IsSome (sym (stays name (λ same. had.1 (ap Some (sym (same ∙ first)))))) had.0,
    )

-- a name was forgotten
pub left_out : (old new : Entries) (gone : List ℕ) → TableOf old (Reduced old) → TableOf new (about_others gone (Reduced old))
    → LeavesOut gone (Some old) (Some new)
left_out old new gone h left other = (
  λ some. let differs : other ≢ gone = λ same. is_none same some in
      (subst IsSome (others_stay old new (Reduced old) gone other h left differs) some, differs),
  λ had. subst IsSome (sym (others_stay old new (Reduced old) gone other h left had.1)) had.0,
)
  where
    is_none : other ≡ gone → IsSome (get new other) → ⊥
    is_none same some = let nowhere : get new other ≡ None = ap (get new) same
        ∙ forgotten new (Reduced old) gone left in absurd (cc (some, nowhere))

-- ---- what a call reports about it

-- a call that changed nothing has no news, and notes nothing
pub refused_news : (status : ℕ) (before after : Watched) → after ≡ before → TellsNews status false before.node after.node
refused_news status before after same = record { done = λ zero. ap (λ h. h.node.table) same; refused = λ other. refl }

pub refused_noted : (status : ℕ) (before after : Watched) → after ≡ before
    → Noted before.changes after.changes status before.node after.node
refused_noted status before after same = record {
  done = λ zero. subst (λ h. NotesChanges before.changes h.changes before.node.table h.node.table) (sym same)
      (unchanged before.changes before.node.table);
  refused = λ other. ap (λ h. h.changes) same;
}

-- the names are those of the table that they were put into
pub all_named : {E : Type 0} (r : Result (Option Names) E) (names : Entries) (own : List ℕ)
    → IfOk r (λ named. IfSome named (λ also. also.names ≡ names)) → ((name : List ℕ) → IsSome (get names name) ↔ (name ≡ own))
    → IfOk r (λ named. IfSome named (λ also. (name : List ℕ) → IsSome (get also.names name) ↔ (name ≡ own)))
all_named (Ok None) names own is h = tt
all_named (Ok (Some also)) names own is h = subst (λ (t : Entries). (name : List ℕ) → IsSome (get t name) ↔ (name ≡ own)) (sym is) h
all_named (Err error) names own is h = tt

-- a table that was joined in was taken in, unless memory was refused
pub taken_on_ok : {A E : Type 0} (r : Result A E) (before after other : Entries) (claims : List Claim)
    → IsLegalTable before → TableOf other claims
    → OnOk r ((claims others : List Claim) → TableOf before claims → TableOf other others → TableOf after (claims ++ others))
    → OnOk r (TakesClaims claims before after)
taken_on_ok (Ok news) before after other claims legal of all = taken before after other claims legal of all
taken_on_ok (Err error) before after other claims legal of all = tt

pub due : (b : Bool) (P Q : Type 0) → b ≡ true → MatchBool b P Q → P
due true P Q is h = h
due false P Q is h = absurd cc

-- a refutation that was due was made
pub refuted_noted : (old new : Option Entries) (before after : NodeValue) (answer : Option ℕ)
    (named : Option Names) → IsLegalTable before.table
    → IsDueInRange before → IfSome answer (IsRefutedBy before after) → (answer ≡ None → IsAtRest before)
    → IfSome named (λ also. (name : List ℕ) → IsSome (get also.names name) ↔ (name ≡ before.name)) → AddsNames old new named
    → NotesChanges old new before.table after.table
refuted_noted old new before after None named legal is_due by rests own adds = absurd ((rests refl).kept.0 is_due.1.kept.0)
refuted_noted old new before after
    (Some inc) named legal is_due by rests own adds = own_noted old new before after inc named legal by
    own adds
