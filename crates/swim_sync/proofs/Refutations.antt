-- A member refutes exactly if a refutation is due, with its Alive at the next incarnation.
use Rattle.std.proofs.Common.{◌≡◌, ◌≢◌, ◌⊎◌, ℕ, ◌+◌, ◌<◌, ◌≤◌, Bool, true, false, if◌then◌else◌, Option, Some, None}
use Rattle.std.proofs.Common.{List, [], ◌∷◌, ◌++◌, Contains, refl, sym, ap, subst, ◌∙◌, inl, inr, arith}
use Rattle.std.specs.Prelude.{nat_le}
use Rattle.std.specs.Ordering.{is_eq}
use Rattle.std.specs.declared.cmp.Ordering.{Ordering}
use Rattle.std.specs.declared.cmp.Ordering.TheVariants.{Less, Equal, Greater}
use Rattle.std.proofs.lemmas.Bool.Decides.{nat_tests}
use Rattle.std.proofs.lemmas.Cmp.{nat_list_cmp_total, tied_itself}
use Rattle.std.proofs.lemmas.Map.Lookups.{exact_bytes}
use mathlib.Core.Bool.{false≢true}
use Rattle.swim_claim.specs.declared.claim.Claim.{Claim}
use Rattle.swim_claim.specs.declared.claim.Claim.TheVariants.{Alive, Suspect, Confirm, Leave}
use Rattle.swim_claim.specs.Claim.{name_of, inc_of, details_of, Overrides}
use Rattle.swim_claim.proofs.OverridingOrder.{overrides_irreflexive}
use Rattle.swim_claim.specs.Details.{details_cmp}
use Rattle.swim_table.specs.Standing.{Standing}
use Rattle.swim_table.specs.Table.{get, name_cmp, EntryOf, Stands, IsStandingOf, TableOf}
use Rattle.swim_table.specs.Join.{greater_home, table_of}
use Rattle.swim_table.specs.Node.{NodeValue}
use Rattle.swim_table.specs.Refuting.{Due, IsFinal, IsNext, IsRefutedBy, IsAtRest, IsExhausted, IsGone}
use Rattle.swim_table.proofs.Greatest.{Greatest, Greatest-unique, Greatest-append}
use Rattle.swim_table.proofs.Lookups.{only_one}
use Rattle.swim_table.proofs.Refuting.{Due-top, IsNext-top, same_details}
use Rattle.swim_table.proofs.Tables.{IsAbout, top_of, parts, TableOf-table_of}
use Rattle.swim_sync.specs.Cluster.{member_of}
use Rattle.swim_sync.specs.Heard.{Member, standing_with, what_stands, own_alive, refuted, refutation}

-- ---- the winning claim

one_name : (name : List ℕ) (c d : Claim) → IsAbout name c → IsAbout name d → name_of c ≡ name_of d
one_name name c d p q = p ∙ sym q

about_one : (name : List ℕ) (c : Claim) → name_of c ≡ name → Greatest (IsAbout name) (c ∷ []) (Some c)
about_one name c about = record {
  has = about;
  made = (0, omega arith, refl);
  greatest = λ d made _. subst (λ e. ¬ Overrides e c) (only_one c d made) (overrides_irreflexive c);
}

about_none : (name : List ℕ) (c : Claim) → name_of c ≢ name → Greatest (IsAbout name) (c ∷ []) None
about_none name c other = λ d made about. other (ap name_of (only_one c d made) ∙ about)

standing_with-is : (c : Claim) (o : Option Claim) → greater_home (Some c) o ≡ Some (standing_with c o)
standing_with-is c None = refl
standing_with-is c (Some d) = refl

-- it is the greatest of the claims about the name
what_stands-greatest : (name : List ℕ) (claims : List Claim) → Greatest (IsAbout name) claims (what_stands name claims)
what_stands-greatest name [] = λ d made. absurd (omega (arith, made.1))
what_stands-greatest name (c ∷ claims) = by_answer (what_stands-greatest name claims) (name_cmp name (name_of c)) refl
  where
    other : (o : Ordering) → name_cmp name (name_of c) ≡ o → o ≢ Equal → name_of c ≢ name
    other o e differs about = differs (sym e ∙ ap (name_cmp name) about ∙ tied_itself nat_list_cmp_total name)

    passed : Greatest (IsAbout name) claims (what_stands name claims) → name_of c ≢ name
        → Greatest (IsAbout name) (c ∷ claims) (what_stands name claims)
    passed rest differs = Greatest-append (IsAbout name) (one_name name) (c ∷ []) claims None
        (what_stands name claims) (about_none name c differs) rest

    by_answer : Greatest (IsAbout name) claims (what_stands name claims) → (o : Ordering) → name_cmp name (name_of c) ≡ o
        → Greatest (IsAbout name) (c ∷ claims)
        (if is_eq o then Some (standing_with c (what_stands name claims)) else what_stands name claims)
    by_answer rest Less e = passed rest (other Less e (λ same. cc))
    by_answer rest Equal e =
        subst (Greatest (IsAbout name) (c ∷ claims)) (standing_with-is c (what_stands name claims))
        (Greatest-append (IsAbout name) (one_name name) (c ∷ []) claims (Some c) (what_stands name claims)
        (about_one name c (sym (exact_bytes name (name_of c) e))) rest)
    by_answer rest Greater e = passed rest (other Greater e (λ same. cc))

-- it is the top of the name in the table of the claims
what_stands-top : (name : List ℕ) (claims : List Claim) → what_stands name claims ≡ top_of (get (table_of claims) name)
what_stands-top name claims =
    Greatest-unique (IsAbout name) (one_name name) claims claims (what_stands name claims) (top_of (get (table_of claims) name))
    (λ c made. made) (λ c made. made)
    (what_stands-greatest name claims) (parts claims name (get (table_of claims) name) ((TableOf-table_of claims).each name)).top

-- ---- the refutation

-- a refutation is due with this incarnation, which is at most 4,294,967,295
abbrev pub IsDueBy : List Claim → Member → ℕ → Type 0
IsDueBy claims member inc = Due claims member.name member.details × IsNext claims member.name inc × (inc ≤ 4294967295)

-- the member's Alive if a refutation is due, and otherwise nothing
abbrev pub Refutes : List Claim → Member → List Claim → Type 0
Refutes claims member added =
    ((inc : ℕ) × IsDueBy claims member inc × (added ≡ Alive member.name inc member.details ∷ []))
    ⊎ ((added ≡ []) × ((inc : ℕ) → ¬ IsDueBy claims member inc))

-- the next incarnation is one number
pub IsNext-unique : (claims : List Claim) (name : List ℕ) (i j : ℕ) → IsNext claims name i → IsNext claims name j → i ≡ j
IsNext-unique claims name i j p q =
    let one = p.above q.least.0 q.least.1 q.least.2 in
    let other = q.above p.least.0 p.least.1 p.least.2 in
    omega (arith, one, other, p.least.3, q.least.3)

module _ (claims : List Claim) (member : Member) where
  never : (¬ Due claims member.name member.details) → Refutes claims member []
  never not_due = inr (refl, λ inc by. not_due by.0)

  refutes_at : (inc : ℕ) → Due claims member.name member.details → IsNext claims member.name inc
      → Refutes claims member (own_alive member inc)
  refutes_at inc due next = by_test (nat_le inc 4294967295) refl
    where
      by_test : (b : Bool) → nat_le inc 4294967295 ≡ b → Refutes claims member (if b then Alive member.name inc member.details ∷ [] else [])
      by_test true test = inl (inc, (due, next, grind (arith, nat_tests, test)), refl)
      by_test false test =
          inr (
            refl,
            λ other by. (let same = IsNext-unique claims member.name inc other next by.1 in
                let above : 4294967295 < inc = grind (arith, nat_tests, test) in
                omega (arith, same, above, by.2)),
          )

  refutes_top : (s : Standing) (top : Claim) → s.top ≡ top → IsStandingOf claims member.name s
      → Refutes claims member (refuted member (Some top))
  refutes_top s (Alive name inc details) is h = by_test (is_eq (details_cmp details member.details)) refl
    where
      due : Some details ≢ Some member.details → Due claims member.name member.details
      due foreign = Due-top claims member.name member.details s h (λ final. subst IsFinal is final)
          (λ own. foreign (ap details_of (sym is) ∙ own))

      own : details ≡ member.details → Stands (Alive member.name inc member.details) claims
      own same =
          let about : name ≡ member.name = ap name_of (sym is) ∙ h.about in
          subst (λ c. Stands c claims) (is ∙ (λ k. Alive (about k) inc (same k))) h.top

      by_test : (b : Bool) → is_eq (details_cmp details member.details) ≡ b
          → Refutes claims member (if b then [] else own_alive member (inc + 1))
      by_test true test =
          let same : Some details ≡ Some member.details = (same_details (Some details) details member.details refl).0 test in
          never (λ due. due.not_own inc (own (cc (same))))
      by_test false test =
          refutes_at (inc + 1) (due (λ same. false≢true (sym test ∙ (same_details (Some details) details member.details refl).1 same)))
          (subst (λ c. IsNext claims member.name (inc_of c + 1)) is (IsNext-top claims member.name s h (λ final. subst IsFinal is final)))
  refutes_top s (Suspect name inc) is h =
      refutes_at (inc + 1)
      (Due-top claims member.name member.details s h (λ final. subst IsFinal is final)
      (λ own. absurd (let no = ap details_of (sym is) ∙ own in cc (no))))
      (subst (λ c. IsNext claims member.name (inc_of c + 1)) is (IsNext-top claims member.name s h (λ final. subst IsFinal is final)))
  refutes_top s (Confirm name inc) is h = never (λ due. due.not_final s.top h.top.made h.about (subst IsFinal (sym is) tt))
  refutes_top s (Leave name inc) is h = never (λ due. due.not_final s.top h.top.made h.about (subst IsFinal (sym is) tt))

  refutes_by : (o : Option Standing) → EntryOf claims member.name o → Refutes claims member (refuted member (top_of o))
  refutes_by None says = never (λ due. says due.claimed.0 due.claimed.1 due.claimed.2)
  refutes_by (Some s) says = refutes_top s s.top refl says

  pub refutes : Refutes claims member (refutation member claims)
  refutes =
      subst (λ o. Refutes claims member (refuted member o)) (sym (what_stands-top member.name claims))
      (refutes_by (get (table_of claims) member.name) ((TableOf-table_of claims).each member.name))

  -- if a refutation is due, it is the Alive at the next incarnation
  pub refutation-due : (inc : ℕ) → Due claims member.name member.details → IsNext claims member.name inc → inc ≤ 4294967295
      → refutation member claims ≡ Alive member.name inc member.details ∷ []
  refutation-due inc due next within = elim refutes [
    | inl at ↦ at.2 ∙ ap (λ i. Alive member.name i member.details ∷ []) (IsNext-unique claims member.name at.0 inc at.1.1 next)
    | inr none ↦ absurd (none.1 inc (due, next, within))
  ]

  -- otherwise it is nothing
  pub refutation-none : ((inc : ℕ) → Due claims member.name member.details → IsNext claims member.name inc → ¬ (inc ≤ 4294967295))
      → refutation member claims ≡ []
  refutation-none not_due = elim refutes [
    | inl at ↦ absurd (not_due at.0 at.1.0 at.1.1 at.1.2)
    | inr none ↦ none.0
  ]

  -- it says only what is due
  pub refutation-said : (c : Claim) → Contains (refutation member claims) c → (inc : ℕ) ×
      (c ≡ Alive member.name inc member.details) × Due claims member.name member.details × IsNext claims member.name inc ×
      (inc ≤ 4294967295)
  refutation-said c made = elim refutes [
    | inl at ↦ (
      at.0,
      sym (only_one (Alive member.name at.0 member.details) c
          (subst (λ l. Contains l c) at.2 made)),
      at.1.0,
      at.1.1,
      at.1.2,
    )
    | inr none ↦ (let nowhere : Contains [] c = subst (λ l. Contains l c) none.0 made in absurd (omega (arith, nowhere.1)))
  ]

-- ---- a node's refutation

-- a node that refuted has the table of what it had heard and its refutation
pub refuted_table : (old new : NodeValue) (inc : ℕ) → IsRefutedBy old new inc → inc ≤ 4294967295 → (claims : List Claim)
    → TableOf old.table claims → TableOf new.table (claims ++ refutation (member_of old) claims)
refuted_table old new inc r within claims h =
    let by = r.due.all claims h in
    subst (λ added. TableOf new.table (claims ++ added))
    (sym (refutation-due claims (member_of old) inc by.0 by.1 within)) (r.taken.all claims h)

-- a node that is at rest, exhausted or gone adds nothing
pub at_rest_adds : (node : NodeValue) → IsAtRest node → (claims : List Claim) → TableOf node.table claims
    → refutation (member_of node) claims ≡ []
at_rest_adds node r claims h = refutation-none claims (member_of node) (λ inc due next within. (r.all claims h).0 due)

pub exhausted_adds : (node : NodeValue) → IsExhausted node → (claims : List Claim)
    → TableOf node.table claims → refutation (member_of node) claims ≡ []
exhausted_adds node e claims h =
    refutation-none claims (member_of node) (λ inc due next within. (
    let same = IsNext-unique claims node.name inc e.0 next (e.1.all claims h).1 in
    omega (arith, same, within, e.2)))

pub gone_adds : (node : NodeValue) (inc : ℕ) → IsGone node inc → (claims : List Claim)
    → TableOf node.table claims → refutation (member_of node) claims ≡ []
gone_adds node inc g claims h =
    refutation-none claims (member_of node)
    (λ next due _ within. (let final = g.all claims h
    in due.not_final final.0 final.1.made final.3 final.2))
