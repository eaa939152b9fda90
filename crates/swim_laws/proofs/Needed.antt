-- Where a view and a table show the same after each thing heard, suspicions are founded.
use Rattle.std.proofs.Common.{◌≡◌, ℕ, ◌<◌, ◌≤◌, ◌⊎◌, Bool, true, false, nat_lt, Option, Some, None, List, [], ◌∷◌, ◌++◌, Contains}
use Rattle.std.proofs.Common.{if◌then◌else◌, refl, sym, ap, subst, ◌∙◌, inl, inr, arith, append_assoc}
use Rattle.std.specs.Option.{option_to_list}
use Rattle.std.specs.Ordering.{is_eq}
use Rattle.std.proofs.lemmas.List.Elements.{Contains-append_right}
use Rattle.swim_claim.specs.declared.claim.Claim.{Claim}
use Rattle.swim_claim.specs.declared.claim.Claim.TheVariants as claim
use Rattle.swim_claim.specs.Claim.{name_of, inc_of, Overrides}
use Rattle.swim_table.specs.Join.{table_of}
use Rattle.swim_table.specs.Standing.{Standing}
use Rattle.swim_table.specs.Table.{IsAlive, EntryOf}
use Rattle.swim_table.proofs.Tables.{TableOf-table_of}
use Rattle.memberlist_view.specs.declared.entry.Entry.{Entry}
use Rattle.memberlist_view.specs.declared.entry.State.{State}
use Rattle.memberlist_view.specs.declared.entry.State.TheVariants as state
use Rattle.memberlist_view.specs.declared.heard.Heard.{Heard}
use Rattle.memberlist_view.specs.declared.heard.Said.{Said}
use Rattle.memberlist_view.specs.declared.heard.Said.TheVariants.{Alive, Suspect, Dead, Left, Seen}
use Rattle.memberlist_view.specs.Heard.{about}
use Rattle.memberlist_view.specs.Rules.{Change, name_cmp, is_passed_over, accused, suspected, change_of_entry}
use Rattle.memberlist_view.specs.Shown.{changed, shown, shown_next}
use Rattle.memberlist_view.proofs.Viewing.{shown_from-last}
use Rattle.swim_laws.specs.Claims.{claim_of, claims_of}
use Rattle.swim_laws.specs.Living.{IsFounded, IsSuspect, IsStateOf, IsSame, IsSameThroughout}
use Rattle.swim_laws.proofs.Claimed.{here, claimed}
use Rattle.swim_laws.proofs.Lives.{is_lt, is_ge}
use Rattle.swim_laws.proofs.Under.{not_below, has_claimed}

-- ---- where a claim was heard

-- the claim was heard after these claims
abbrev pub IsHeardAfter : List Heard → List Claim → Claim → Type 0
IsHeardAfter heard before c = (past : List Heard) × (h : Heard) × (later : List Heard) × (heard ≡ past ++ h ∷ later)
    × (claims_of past ≡ before) × (claim_of h.said ≡ Some c)

one_more : (first : Heard) (rest : List Heard) (before : List Claim) (c : Claim) → IsHeardAfter rest before c
    → IsHeardAfter (first ∷ rest) (option_to_list (claim_of first.said) ++ before) c
one_more first rest before c w = (
  first ∷ w.0,
  w.1,
  w.2,
  ap (λ hs. first ∷ hs) w.3,
  ap (λ cs. option_to_list (claim_of first.said) ++ cs) w.4,
  w.5,
)

no_claims : (before after : List Claim) (c : Claim) → [] ≡ before ++ c ∷ after → ⊥
no_claims [] after c e = cc (e)
no_claims (b ∷ before) after c e = cc (e)

heard_after : (heard : List Heard) (before after : List Claim) (c : Claim) → claims_of heard ≡ before ++ c ∷ after
    → IsHeardAfter heard before c
heard_after [] before after c e = absurd (no_claims before after c e)
heard_after (first ∷ rest) before after c e = by_claim (claim_of first.said) refl before e (λ b f. heard_after rest b after c f)
  where
    by_claim : (o : Option Claim) → claim_of first.said ≡ o → (before : List Claim)
        → option_to_list o ++ claims_of rest ≡ before ++ c ∷ after
        → ((b : List Claim) → claims_of rest ≡ b ++ c ∷ after → IsHeardAfter rest b c) → IsHeardAfter (first ∷ rest) before c
    by_claim None is before e more = subst (λ o. IsHeardAfter (first ∷ rest) (option_to_list o ++ before) c) is
        (one_more first rest before c (more before e))
    by_claim (Some d) is [] e more = ([], first, rest, refl, refl, is ∙ same_head d e)
      where
        same_head : (d : Claim) → d ∷ claims_of rest ≡ c ∷ after → Some d ≡ Some c
        same_head d e = cc (e)
    by_claim (Some d) is (b ∷ before) e more = subst (λ b. IsHeardAfter (first ∷ rest) (b ∷ before) c) (head e)
        (subst (λ o. IsHeardAfter (first ∷ rest) (option_to_list o ++ before) c) is
        (one_more first rest before c (more before (tail e))))
      where
        head : d ∷ claims_of rest ≡ b ∷ (before ++ c ∷ after) → d ≡ b
        head e = cc (e)

        tail : d ∷ claims_of rest ≡ b ∷ (before ++ c ∷ after) → claims_of rest ≡ before ++ c ∷ after
        tail e = cc (e)

said_suspect : (said : Said) (name : List ℕ) (inc : ℕ) → claim_of said ≡ Some (claim.Suspect name inc)
    → (from : Option (List ℕ)) × (said ≡ Suspect name inc from)
said_suspect (Alive n i d joins) name inc is = absurd (cc (is))
said_suspect (Suspect n i from) name inc is = (from, cc (is))
said_suspect (Dead n i from) name inc is = absurd (cc (is))
said_suspect (Left n i) name inc is = absurd (cc (is))
said_suspect (Seen n place) name inc is = absurd (cc (is))

-- ---- a suspicion of one that is suspected

-- it is shown at the same incarnation
abbrev pub IsKept : Entry → Option Entry → Type 0
IsKept entry o = (after : Entry) × (o ≡ Some after) × (after.inc ≡ entry.inc)

kept_if : (entry : Entry) (b : Bool) (x y : Option Entry) → IsKept entry x → IsKept entry y → IsKept entry (if b then x else y)
kept_if entry true x y f g = f
kept_if entry false x y f g = g

change_if : (entry : Entry) (b : Bool) (x y : Change) → IsKept entry (changed (Some entry) x) → IsKept entry (changed (Some entry) y)
    → IsKept entry (changed (Some entry) (if b then x else y))
change_if entry true x y f g = f
change_if entry false x y f g = g

module _ (wait : ℕ) (name : List ℕ) (entry : Entry) (by : List (List ℕ)) (suspected_by : entry.state ≡ state.Suspect by) where
  itself_kept : IsKept entry (Some entry)
  itself_kept = (entry, refl, refl)

  accused_kept : (from : Option (List ℕ)) → IsKept entry (changed (Some entry) (accused by entry from))
  accused_kept None = itself_kept
  accused_kept (Some f) = change_if entry (is_passed_over f by) None _ itself_kept (_, refl, refl)

  suspect_kept : (time inc : ℕ) (from : Option (List ℕ)) → IsKept entry (changed (Some entry) (suspected entry.state time entry inc from))
  suspect_kept time inc from = subst (λ s. IsKept entry (changed (Some entry) (suspected s time entry inc from))) (sym suspected_by)
      (accused_kept from)

  next_kept : (heard : Heard) (inc : ℕ) (from : Option (List ℕ)) → heard.said ≡ Suspect name inc from
      → IsKept entry (shown_next wait name (Some entry) heard)
  next_kept heard inc from is = kept_if entry (is_eq (name_cmp name (about heard.said))) _ (Some entry)
      (subst (λ s. IsKept entry (changed (Some entry) (change_of_entry wait heard.time entry s))) (sym is)
      (change_if entry (nat_lt inc entry.inc) None _ itself_kept (suspect_kept heard.time inc from)))
      itself_kept

-- ---- what the table has

alive_or_suspect : (top : Claim) (s : State) → IsStateOf top s → IsAlive top ⊎ IsSuspect top
alive_or_suspect top state.Noted h = inl h.0
alive_or_suspect top state.Seen h = inl h.0
alive_or_suspect top state.Alive h = inl h.0
alive_or_suspect top (state.Suspect by) h = inr h
alive_or_suspect top (state.Dead by) h = absurd h
alive_or_suspect top state.Left h = absurd h

of_suspect : (n : List ℕ) (k : ℕ) (s : State) → IsStateOf (claim.Suspect n k) s → (by : List (List ℕ)) × (s ≡ state.Suspect by)
of_suspect n k state.Noted h = absurd h.0
of_suspect n k state.Seen h = absurd h.0
of_suspect n k state.Alive h = absurd h.0
of_suspect n k (state.Suspect by) h = (by, refl)
of_suspect n k (state.Dead by) h = absurd h
of_suspect n k state.Left h = absurd h

-- a top that is not above a suspicion, and that it does not override
is_doubt : (name : List ℕ) (i : ℕ) (top : Claim) (s : State) → IsStateOf top s → ¬ Overrides (claim.Suspect name i) top → inc_of top ≤ i
    → (by : List (List ℕ)) × (s ≡ state.Suspect by)
is_doubt name i (claim.Alive n k d) s h not le = absurd (not le)
is_doubt name i (claim.Suspect n k) s h not le = of_suspect n k s h
is_doubt name i (claim.Confirm n k) s h not le = elim (alive_or_suspect (claim.Confirm n k) s h) [ inl a ↦ absurd a | inr b ↦ absurd b ]
is_doubt name i (claim.Leave n k) s h not le = elim (alive_or_suspect (claim.Leave n k) s h) [ inl a ↦ absurd a | inr b ↦ absurd b ]

no_lower : (name : List ℕ) (j : ℕ) (top : Claim) (s : State) → IsStateOf top s → ¬ Overrides (claim.Suspect name j) top → j ≤ inc_of top
no_lower name j (claim.Alive n k d) s h not = above j k not
  where
    above : (j k : ℕ) → ¬ (k ≤ j) → j ≤ k
    above j k h = grind (arith, h)
no_lower name j (claim.Suspect n k) s h not = not_below j k not
no_lower name j (claim.Confirm n k) s h not = elim (alive_or_suspect (claim.Confirm n k) s h) [ inl a ↦ absurd a | inr b ↦ absurd b ]
no_lower name j (claim.Leave n k) s h not = elim (alive_or_suspect (claim.Leave n k) s h) [ inl a ↦ absurd a | inr b ↦ absurd b ]

module _ (wait : ℕ) (heard : List Heard) (name : List ℕ) (same : IsSameThroughout wait heard name) where
  -- the top that the claims so far have, and what is shown with it
  standing : (past later : List Heard) → heard ≡ past ++ later → (c : Claim) → Contains (claims_of past) c → name_of c ≡ name
      → (s : Standing) × Contains (claims_of past) s.top × (name_of s.top ≡ name) × (¬ Overrides c s.top)
      × IsSame (shown wait past name) (Some s)
  standing past later is c made of_it =
      let of = TableOf-table_of (claims_of past) in
      let h = has_claimed (claims_of past) name (table_of (claims_of past)) of c made of_it in
      let says = subst (EntryOf (claims_of past) name) h.1 (of.each name) in
      (h.0, says.top.made, says.about, h.2, subst (IsSame (shown wait past name)) h.1 (same past later is))

  module _ (past later : List Heard) (h : Heard) (is : heard ≡ past ++ h ∷ later) (i j : ℕ)
      (now : claim_of h.said ≡ Some (claim.Suspect name j))
      (made : Contains (claims_of past) (claim.Suspect name i)) (lt : i < j) where
    abbrev pub HasGreater : Type 0
    HasGreater = (c : Claim) × Contains (claims_of past) c × (name_of c ≡ name) × (i < inc_of c)

    is_then : heard ≡ (past ++ h ∷ []) ++ later
    is_then = is ∙ sym (append_assoc past (h ∷ []) later)

    made_now : Contains (claims_of (past ++ h ∷ [])) (claim.Suspect name j)
    made_now = claimed (past ++ h ∷ []) h (claim.Suspect name j) (Contains-append_right past (h ∷ []) h (here h [])) now

    -- one that is suspected there is shown there still, and the table's top is above
    never_same : (entry : Entry) → shown wait past name ≡ Some entry → (by : List (List ℕ)) → entry.state ≡ state.Suspect by
        → entry.inc ≤ i → ⊥
    never_same entry shows by suspected_by le =
        let s = standing (past ++ h ∷ []) later is_then (claim.Suspect name j) made_now refl in
        let from = said_suspect h.said name j now in
        let k = next_kept wait name entry by suspected_by h j from.0 from.1 in
        let o : shown wait (past ++ h ∷ []) name ≡ Some k.0 =
        shown_from-last wait name None past h ∙ (ap (λ o. shown_next wait name o h) shows ∙ k.1) in
        let same_now = subst (λ o. IsSame o (Some s.0)) o s.4 in
        let above = no_lower name j s.0.top k.0.state same_now.1 s.3 in
        let inc = same_now.0 in
        let kept = k.2 in
        omega (arith, above, inc, kept, le, lt)

    by_shown : (o : Option Entry) → shown wait past name ≡ o → (s : Standing) → Contains (claims_of past) s.top → name_of s.top ≡ name
        → ¬ Overrides (claim.Suspect name i) s.top → IsSame o (Some s) → HasGreater
    by_shown None shows s top of_it not is_same = absurd is_same
    by_shown (Some entry) shows s top of_it not is_same = by_test (nat_lt i (inc_of s.top)) refl
      where
        by_test : (b : Bool) → nat_lt i (inc_of s.top) ≡ b → HasGreater
        by_test true above = (s.top, top, of_it, is_lt i (inc_of s.top) above)
        by_test false le =
            let most = is_ge i (inc_of s.top) le in
            let d = is_doubt name i s.top entry.state is_same.1 not most in
            let inc = is_same.0 in
            absurd (never_same entry shows d.0 d.1 (omega (arith, inc, most)))

    greater : HasGreater
    greater =
        let s = standing past (h ∷ later) is (claim.Suspect name i) made refl in
        by_shown (shown wait past name) refl s.0 s.1 s.2 s.3 s.4

  pub founded : IsFounded name (claims_of heard)
  founded = λ before after i j split made lt.
      let w = heard_after heard before after (claim.Suspect name j) split in
      subst (λ cs. (c : Claim) × Contains cs c × (name_of c ≡ name) × (i < inc_of c)) w.4
      (greater w.0 w.2 w.1 w.3 i j w.5 (subst (λ cs. Contains cs (claim.Suspect name i)) (sym w.4) made) lt)
