-- Details that are known stay known, and a sound Alive makes them known.
use Rattle.std.proofs.Common.{◌≡◌, ℕ, ◌<◌, ◌⊎◌, Bool, true, false, nat_lt, nat_le, Option, Some, None, IsSome, MatchOption, List, []}
use Rattle.std.proofs.Common.{◌∷◌, Contains, if◌then◌else◌, refl, sym, ap, subst, ◌∙◌, inl, inr, arith}
use Rattle.std.specs.Ordering.{is_eq}
use Rattle.std.specs.declared.cmp.Ordering.{Ordering}
use Rattle.std.specs.declared.cmp.Ordering.TheVariants.{Less, Equal, Greater}
use Rattle.std.proofs.lemmas.Bool.Decides.{nat_tests}
use Rattle.std.proofs.lemmas.List.Elements.{Contains-append_cases, Contains-push_cases}
use Rattle.swim_claim.specs.Details.{DetailsValue}
use Rattle.memberlist_view.specs.declared.entry.Entry.{Entry}
use Rattle.memberlist_view.specs.declared.entry.State.{State}
use Rattle.memberlist_view.specs.declared.entry.State.TheVariants as state
use Rattle.memberlist_view.specs.declared.event.Event.{Event}
use Rattle.memberlist_view.specs.declared.event.Event.TheVariants as event
use Rattle.memberlist_view.specs.declared.heard.Heard.{Heard}
use Rattle.memberlist_view.specs.declared.heard.Said.{Said}
use Rattle.memberlist_view.specs.declared.heard.Said.TheVariants.{Alive, Suspect, Dead, Left, Seen}
use Rattle.memberlist_view.specs.Heard.{about}
use Rattle.memberlist_view.specs.Rules.{Change, name_cmp, are_sound_versions, is_same_place, is_passed_over, is_passed_rival}
use Rattle.memberlist_view.specs.Rules.{is_gone, has_left, is_forgotten, alive_again, alive_at, alive, accused, suspected}
use Rattle.memberlist_view.specs.Rules.{ended, ended_in_record, ended_by, lacks_place, seen_in, change_of_entry, change_by, change}
use Rattle.memberlist_view.specs.Shown.{changed, shown_next, shown_from}
use Rattle.memberlist_view.specs.Sources.{Was, IsAliveAt}
use Rattle.memberlist_view.proofs.Changing.{first_true}
use Rattle.memberlist_view.proofs.Inserting.{itself}

-- a test decides which change it is
pub by_bool : (N : Type 0) (P : Entry × Event → Type 0) (b : Bool) (x y : Change) → (b ≡ true → MatchOption x N P)
    → (b ≡ false → MatchOption y N P) → MatchOption (if b then x else y) N P
by_bool N P true x y f g = f refl
by_bool N P false x y f g = g refl

not_0 : (n : ℕ) → nat_lt 0 n ≡ false → n ≡ 0
not_0 n h = grind (arith, nat_tests)

module _ (least : ℕ) where
  -- the details are known, or the member is gone and nobody claimed that it is alive above
  -- incarnation 0
  abbrev pub IsPlaced : Entry → Type 0
  IsPlaced entry = IsSome entry.details ⊎ ((is_gone entry.state ≡ true) × (least ≡ 0))

  abbrev pub Placed : Option Entry → Type 0
  Placed o = MatchOption o ⊥ IsPlaced

  abbrev pub Is : Entry × Event → Type 0
  Is p = IsPlaced p.0

  known : (entry : Entry) (d : DetailsValue) → entry.details ≡ Some d → IsPlaced entry
  known entry d is = inl (subst IsSome (sym is) refl)

  module _ (time : ℕ) (entry : Entry) where
    again : (s : State) (inc : ℕ) (d : DetailsValue) (joins : Bool)
        → MatchOption (alive_again s time entry inc d joins) (IsPlaced entry) Is
    again state.Noted inc d joins = inl refl
    again state.Seen inc d joins = inl refl
    again state.Alive inc d joins = inl refl
    again (state.Suspect by) inc d joins = inl refl
    again (state.Dead by) inc d joins = inl refl
    again state.Left inc d joins = inl refl

    at : (o : Option DetailsValue) → entry.details ≡ o → (inc : ℕ) (details : DetailsValue) (joins : Bool)
        → MatchOption (alive_at o time entry inc details joins) (IsPlaced entry) Is
    at None none inc details joins = by_bool (IsPlaced entry) Is (nat_le inc entry.inc) _ _
        (λ _. inl refl) (λ _. again entry.state inc _ joins)
    at (Some old) some inc details joins = by_bool (IsPlaced entry) Is (is_same_place old details) _ _
        (λ _. by_bool (IsPlaced entry) Is (nat_le inc entry.inc) None _ (λ _. known entry old some) (λ _. again entry.state inc _ joins))
        (λ _. by_bool (IsPlaced entry) Is (has_left entry.state) _ _ (λ _. inl refl)
        (λ _. by_bool (IsPlaced entry) Is (is_passed_rival entry.rivals details) None _ (λ _. known entry old some)
        (λ _. known entry old some)))

    -- an Alive at this incarnation, or another one where it was so before
    after_alive : (wait inc : ℕ) (details : DetailsValue) (joins : Bool) → (inc ≡ least) ⊎ IsPlaced entry
        → MatchOption (alive wait time entry inc details joins) (IsPlaced entry) Is
    after_alive wait inc details joins h = by_bool (IsPlaced entry) Is (is_forgotten wait time entry) _ _
        (λ late. by_bool (IsPlaced entry) Is (nat_lt 0 inc) _ None (λ _. inl refl) (λ zero. elim h [
          | inl is ↦ inr (first_true (is_gone entry.state) _ late, sym is ∙ not_0 inc zero)
          | inr before ↦ before
        ]))
        (λ _. at entry.details refl inc details joins)

    -- what is not gone has details
    if_here : (A : Type 0) → is_gone entry.state ≡ false → IsPlaced entry → IsSome entry.details ⊎ A
    if_here A here p = elim p [ inl d ↦ inl d | inr gone ↦ absurd (cc (here, gone.0)) ]

    after_accused : (by : List (List ℕ)) (from : Option (List ℕ)) → is_gone entry.state ≡ false → IsPlaced entry
        → MatchOption (accused by entry from) (IsPlaced entry) Is
    after_accused by None here p = p
    after_accused by (Some f) here p = by_bool (IsPlaced entry) Is (is_passed_over f by) None _ (λ _. p) (λ _. if_here _ here p)

    after_suspected : (s : State) (inc : ℕ) (from : Option (List ℕ)) → entry.state ≡ s → IsPlaced entry
        → MatchOption (suspected s time entry inc from) (IsPlaced entry) Is
    after_suspected state.Noted inc from e p = if_here _ (ap is_gone e) p
    after_suspected state.Seen inc from e p = if_here _ (ap is_gone e) p
    after_suspected state.Alive inc from e p = if_here _ (ap is_gone e) p
    after_suspected (state.Suspect by) inc from e p = after_accused by from (ap is_gone e) p
    after_suspected (state.Dead by) inc from e p = p
    after_suspected state.Left inc from e p = p

    after_ended : (end : State) (what : Event) (inc : ℕ) → IsPlaced entry
        → MatchOption (ended end what time entry inc) (IsPlaced entry) Is
    after_ended end what inc p = by_bool (IsPlaced entry) Is (is_gone entry.state) None _ (λ _. p) (λ here. if_here _ here p)

    after_record : (o : Option DetailsValue) (inc : ℕ) → IsPlaced entry
        → MatchOption (ended_in_record o time entry inc) (IsPlaced entry) Is
    after_record None inc p = after_ended (state.Dead None) event.Dead inc p
    after_record (Some d) inc p = after_suspected entry.state inc None refl p

    after_dead : (name : List ℕ) (from : Option (List ℕ)) (inc : ℕ) → IsPlaced entry
        → MatchOption (ended_by name from time entry inc) (IsPlaced entry) Is
    after_dead name None inc p = after_record entry.details inc p
    after_dead name (Some f) inc p = by_bool (IsPlaced entry) Is (is_eq (name_cmp name f)) _ _
        (λ _. after_ended state.Left event.Left inc p) (λ _. after_ended (state.Dead (Some f)) event.Dead inc p)

    after_seen : (s : State) (place : DetailsValue) → entry.state ≡ s → IsPlaced entry → IsPlaced (seen_in s time entry place)
    after_seen state.Noted place e p = if_here _ (ap is_gone e) p
    after_seen state.Seen place e p = p
    after_seen state.Alive place e p = p
    after_seen (state.Suspect by) place e p = p
    after_seen (state.Dead by) place e p = p
    after_seen state.Left place e p = p

    after_said : (wait : ℕ) (said : Said) → IsPlaced entry
        → MatchOption (change_of_entry wait time entry said) (IsPlaced entry) Is
    after_said wait (Alive name inc details joins) p = by_bool (IsPlaced entry) Is (are_sound_versions details.vsn) _ None
        (λ _. after_alive wait inc details joins (inr p)) (λ _. p)
    after_said wait (Suspect name inc from) p = by_bool (IsPlaced entry) Is (nat_lt inc entry.inc) None _
        (λ _. p) (λ _. after_suspected entry.state inc from refl p)
    after_said wait (Dead name inc from) p = by_bool (IsPlaced entry) Is (nat_lt inc entry.inc) None _
        (λ _. p) (λ _. after_dead name from inc p)
    after_said wait (Left name inc) p = by_bool (IsPlaced entry) Is (nat_lt inc entry.inc) None _
        (λ _. p) (λ _. after_ended state.Left event.Left inc p)
    after_said wait (Seen name place) p = by_bool (IsPlaced entry) Is (lacks_place entry) _ None
        (λ _. after_seen entry.state place refl p) (λ _. p)

  -- ---- what is shown

  changed_placed : (old : Option Entry) (what : Change) → MatchOption what (Placed old) Is → Placed (changed old what)
  changed_placed old None h = h
  changed_placed old (Some p) h = h

  said_placed : (wait time : ℕ) (old : Option Entry) (said : Said) → Placed old → MatchOption (change_by wait time old said) (Placed old) Is
  said_placed wait time None said p = absurd p
  said_placed wait time (Some entry) said p = after_said time entry wait said p

  -- a sound Alive at this incarnation
  alive_placed : (wait time : ℕ) (old : Option Entry) (name : List ℕ) (details : DetailsValue) (joins : Bool)
      → are_sound_versions details.vsn ≡ true → MatchOption (change_by wait time old (Alive name least details joins)) (Placed old) Is
  alive_placed wait time None name details joins sound =
      by_bool ⊥ Is (are_sound_versions details.vsn) _ None
      (λ _. by_bool ⊥ Is (nat_le least 0) _ _ (λ _. inl refl) (λ _. inl refl)) (λ not. absurd (cc (sound, not)))
  alive_placed wait time (Some entry) name details joins sound =
      by_bool (IsPlaced entry) Is (are_sound_versions details.vsn) _ None
      (λ _. after_alive time entry wait least details joins (inl refl)) (λ not. absurd (cc (sound, not)))

  next_stays : (wait : ℕ) (name : List ℕ) (old : Option Entry) (heard : Heard) → Placed old → Placed (shown_next wait name old heard)
  next_stays wait name old heard p = by_answer (is_eq (name_cmp name (about heard.said)))
    where
      by_answer : (b : Bool) → Placed (if b then changed old (change wait old heard) else old)
      by_answer true = changed_placed old (change wait old heard) (said_placed wait heard.time old heard.said p)
      by_answer false = p

  shown_stays : (wait : ℕ) (name : List ℕ) (later : List Heard) (old : Option Entry) → Placed old → Placed (shown_from wait name old later)
  shown_stays wait name [] old p = p
  shown_stays wait name (heard ∷ later) old p = shown_stays wait name later (shown_next wait name old heard)
      (next_stays wait name old heard p)

  if_said : (wait : ℕ) (name : List ℕ) (old : Option Entry) (heard : Heard) → (o : Ordering) → o ≡ Equal
      → Placed (changed old (change wait old heard)) → Placed (if is_eq o then changed old (change wait old heard) else old)
  if_said wait name old heard Equal e p = p
  if_said wait name old heard Less e p = absurd (cc (e))
  if_said wait name old heard Greater e p = absurd (cc (e))

  next_placed : (wait : ℕ) (name : List ℕ) (old : Option Entry) (heard : Heard) → IsAliveAt name least heard
      → Placed (shown_next wait name old heard)
  next_placed wait name old heard a = if_said wait name old heard (name_cmp name (about heard.said))
      (ap (λ s. name_cmp name (about s)) a.2 ∙ itself name)
      (changed_placed old (change wait old heard)
      (subst (λ s. MatchOption (change_by wait heard.time old s) (Placed old) Is) (sym a.2)
      (alive_placed wait heard.time old name a.0 a.1 a.3)))

  only_one : {X : Type 0} (x y : X) → Contains (x ∷ []) y → x ≡ y
  only_one x y here = elim (Contains-push_cases [] x y here) [ inl none ↦ absurd (omega (arith, none.1)) | inr is ↦ is ]

  -- after a sound Alive at this incarnation
  pub shown_placed : (wait : ℕ) (name : List ℕ) (later : List Heard) (old : Option Entry) → Was later (IsAliveAt name least)
      → Placed (shown_from wait name old later)
  shown_placed wait name [] old w = absurd (omega (arith, w.1.1))
  shown_placed wait name (heard ∷ later) old w = elim (Contains-append_cases (heard ∷ []) later w.0 w.1) [
    | inl now ↦ shown_stays wait name later (shown_next wait name old heard)
        (next_placed wait name old heard (subst (IsAliveAt name least) (sym (only_one heard w.0 now)) w.2))
    | inr after ↦ shown_placed wait name later (shown_next wait name old heard) (w.0, after, w.2)
  ]

  -- above incarnation 0, or of a member that is not gone, the details are known
  pub are_known : (o : Option Entry) (entry : Entry) → Placed o → o ≡ Some entry → (0 < least) ⊎ (is_gone entry.state ≡ false)
      → IsSome entry.details
  are_known None entry p is h = absurd p
  are_known (Some e) entry p is h = sure (subst IsPlaced (unwrapped e entry is) p)
    where
      unwrapped : (a b : Entry) → Some a ≡ Some b → a ≡ b
      unwrapped a b h = cc (h)

      sure : IsPlaced entry → IsSome entry.details
      sure (inl d) = d
      sure (inr gone) = elim h [ inl above ↦ absurd (not_both least above gone.1) | inr here ↦ absurd (cc (here, gone.0)) ]
        where
          not_both : (n : ℕ) → 0 < n → n ≡ 0 → ⊥
          not_both n lt z = omega (arith, lt, z)
