-- Each step of a member's view is one of state.go.
use Rattle.std.proofs.Common.{◌≡◌, ◌≢◌, ℕ, ◌<◌, ◌≤◌, ◌-◌, ◌⊎◌, Bool, true, false, ◌&&◌, ◌||◌, not, nat_lt, nat_le, Option, Some}
use Rattle.std.proofs.Common.{None, IsSome, List, [], ◌∷◌, ◌++◌, length, if◌then◌else◌, refl, sym, ap, subst, ◌∙◌, inl, inr, arith}
use Rattle.std.specs.Prelude.{slice_index}
use Rattle.std.specs.Ordering.{is_eq}
use Rattle.std.specs.declared.cmp.Ordering.{Ordering}
use Rattle.std.specs.declared.cmp.Ordering.TheVariants.{Less, Equal, Greater}
use Rattle.std.proofs.lemmas.Bool.Decides.{nat_tests}
use Rattle.std.proofs.lemmas.Map.Lookups.{exact_bytes}
use Rattle.swim_claim.specs.Details.{DetailsValue}
use Rattle.memberlist_view.specs.declared.entry.Entry.{Entry}
use Rattle.memberlist_view.specs.declared.entry.State.{State}
use Rattle.memberlist_view.specs.declared.entry.State.TheVariants as state
use Rattle.memberlist_view.specs.declared.event.Event.{Event}
use Rattle.memberlist_view.specs.declared.event.Event.TheVariants as event
use Rattle.memberlist_view.specs.declared.heard.Said.{Said}
use Rattle.memberlist_view.specs.declared.heard.Said.TheVariants.{Alive, Suspect, Dead, Left, Seen}
use Rattle.memberlist_view.specs.Heard.{about}
use Rattle.memberlist_view.specs.Member.{is_alive, is_noted, is_known}
use Rattle.memberlist_view.specs.Rules.{Change, name_cmp, are_sound_versions, is_same_place, is_gone, is_forgotten, is_passed_over}
use Rattle.memberlist_view.specs.Rules.{is_passed_rival, or_versions, with_versions, alive_since, alive_after, alive_again}
use Rattle.memberlist_view.specs.Rules.{alive_elsewhere, first_event, alive, accused, suspect_since, suspected, ended, ended_by, blank}
use Rattle.memberlist_view.specs.Rules.{change_of_entry, change_by}
use Rattle.memberlist_view.specs.Shown.{changed}
use Rattle.memberlist_view.proofs.Changing.{when_true, when_false}
use Rattle.memberlist_view.proofs.Inserting.{itself}
use Rattle.swim_laws.specs.Nodes.{state_of, changed_of, node_at, IsMemberState, IsOfMember, Becomes}
use Rattle.swim_laws.specs.Places.{IsSamePlace}
use Rattle.swim_laws.specs.State.{NodeState, NodeState as node, Node, AreWrong, versions_after, is_dead_or_left}
use Rattle.swim_laws.specs.State.{AliveNode, AliveNode as on_alive, SuspectNode, SuspectNode as on_suspect}
use Rattle.swim_laws.specs.State.{DeadNode, DeadNode as on_dead, Handles as handles, Resets as resets}
use Rattle.swim_laws.proofs.SamePlace.{is_same, are_same}

-- a test decides which change it is
pub by_change : {A : Type 0} (P : A → Type 0) (b : Bool) (x y : A) → (b ≡ true → P x) → (b ≡ false → P y) → P (if b then x else y)
by_change P true x y f g = f refl
by_change P false x y f g = g refl

is_0 : (n : ℕ) → nat_lt 0 n ≡ false → n ≡ 0
is_0 n h = grind (arith, nat_tests)

is_above_0 : (n : ℕ) → nat_le n 0 ≡ false → 0 < n
is_above_0 n h = grind (arith, nat_tests)

is_none : (n : ℕ) → nat_le n 0 ≡ true → n ≡ 0
is_none n h = grind (arith, nat_tests)

is_le : (i j : ℕ) → nat_le i j ≡ true → i ≤ j
is_le i j h = grind (arith, nat_tests)

is_above : (i j : ℕ) → nat_le i j ≡ false → j < i
is_above i j h = grind (arith, nat_tests)

is_lt : (i j : ℕ) → nat_lt i j ≡ true → i < j
is_lt i j h = grind (arith, nat_tests)

is_ge : (i j : ℕ) → nat_lt i j ≡ false → j ≤ i
is_ge i j h = grind (arith, nat_tests)

-- ---- versions

parts : (p q r s : Bool) → (p || ((q && r) && s)) ≡ true → p ≡ false → (q ≡ true) × (r ≡ true) × (s ≡ true)
parts true q r s h f = absurd (cc (f))
parts false true true s h f = (refl, refl, h)
parts false true false s h f = absurd (cc (h))
parts false false r s h f = absurd (cc (h))

lack : (p q r s : Bool) → (p || ((q && r) && s)) ≡ false → (p ≡ false) × ((q ≡ false) ⊎ (r ≡ false) ⊎ (s ≡ false))
lack true q r s h = absurd (cc (h))
lack false false r s h = (refl, inl refl)
lack false true false s h = (refl, inr (inl refl))
lack false true true s h = (refl, inr (inr h))

pub sound_not_wrong : (vsn : List ℕ) → are_sound_versions vsn ≡ true → ¬ AreWrong vsn
sound_not_wrong vsn sound w = by_parts (length vsn) (slice_index vsn 0) (slice_index vsn 1) w.0 w.1
    (parts (nat_lt (length vsn) 2) (nat_lt 0 (slice_index vsn 0)) (nat_lt 0 (slice_index vsn 1))
    (nat_le (slice_index vsn 0) (slice_index vsn 1)) sound (not_short (length vsn) w.0))
  where
    not_short : (n : ℕ) → 2 ≤ n → nat_lt n 2 ≡ false
    not_short n long = grind (arith, nat_tests)

    positive : (a : ℕ) → nat_lt 0 a ≡ true → a ≡ 0 → ⊥
    positive a h z = grind (arith, nat_tests)

    ordered : (a b : ℕ) → nat_le a b ≡ true → b < a → ⊥
    ordered a b h lt = grind (arith, nat_tests)

    by_parts : (n a b : ℕ) → 2 ≤ n → (a ≡ 0) ⊎ (b ≡ 0) ⊎ (b < a)
        → (nat_lt 0 a ≡ true) × (nat_lt 0 b ≡ true) × (nat_le a b ≡ true) → ⊥
    by_parts n a b long bad h = elim bad [
      | inl least ↦ positive a h.0 least
      | inr rest ↦ elim rest [ inl greatest ↦ positive b h.1 greatest | inr order ↦ ordered a b h.2 order ]
    ]

pub unsound_wrong : (vsn : List ℕ) → are_sound_versions vsn ≡ false → AreWrong vsn
unsound_wrong vsn unsound = by_parts (length vsn) (slice_index vsn 0) (slice_index vsn 1)
    (lack (nat_lt (length vsn) 2) (nat_lt 0 (slice_index vsn 0)) (nat_lt 0 (slice_index vsn 1))
    (nat_le (slice_index vsn 0) (slice_index vsn 1)) unsound)
  where
    by_parts : (n a b : ℕ) → (nat_lt n 2 ≡ false) × ((nat_lt 0 a ≡ false) ⊎ (nat_lt 0 b ≡ false) ⊎ (nat_le a b ≡ false))
        → (2 ≤ n) × ((a ≡ 0) ⊎ (b ≡ 0) ⊎ (b < a))
    by_parts n a b h = (
      is_ge n 2 h.0,
      elim h.1 [
        | inl least ↦ inl (is_0 a least)
        | inr rest ↦ elim rest [ inl greatest ↦ inr (inl (is_0 b greatest)) | inr order ↦ inr (inr (is_above a b order)) ]
      ],
    )

-- an Alive without versions keeps those that were known
pub same_versions : (known details : DetailsValue) → with_versions (Some known) details
    ≡ record details { vsn = versions_after known.vsn details.vsn }
same_versions known details = by_versions details.vsn refl
  where
    by_versions : (vs : List ℕ) → details.vsn ≡ vs → or_versions known.vsn details vs ≡ record details { vsn = versions_after known.vsn vs }
    by_versions [] e = refl
    by_versions (v ∷ vs) e = λ k. record details { vsn = e k }

-- ---- who says it

not_itself : (name from : List ℕ) (o : Ordering) → name_cmp name from ≡ o → o ≢ Equal → from ≢ name
not_itself name from o e not same = not (sym e ∙ ap (name_cmp name) same ∙ itself name)

itself_said : (name from : List ℕ) (inc : ℕ) → name_cmp name from ≡ Equal → Dead name inc (Some from) ≡ Dead name inc (Some name)
itself_said name from inc e = ap (λ n. Dead name inc (Some n)) (sym (exact_bytes name from e))

-- ---- an entry with details

module _ (wait time i : ℕ) (d : DetailsValue) (seen : Option DetailsValue) (since : ℕ) (rivals : List DetailsValue) where
  abbrev pub entry : State → Entry
  entry s = record { state = s; inc = i; details = Some d; seen = seen; since = since; rivals = rivals }

  abbrev pub at : State → Option Node
  at s = node_at wait time (Some (entry s))

  abbrev pub after : State → Change → Option Node
  after s what = node_at wait time (changed (Some (entry s)) what)

  abbrev pub this : State → Node
  this s = record { state = state_of s; inc = i; details = d; changed = changed_of s since }

  there : (s : State) → is_forgotten wait time (entry s) ≡ false → at s ≡ Some (this s)
  there s f = when_false (is_forgotten wait time (entry s)) None (Some (this s)) f

  forgotten : (s : State) → is_forgotten wait time (entry s) ≡ true → at s ≡ None
  forgotten s f = when_true (is_forgotten wait time (entry s)) None (Some (this s)) f

  -- ---- an Alive

  module _ (name : List ℕ) (inc : ℕ) (details : DetailsValue) (joins : Bool) where
    abbrev pub said : Said
    said = Alive name inc details joins

    abbrev pub Goes : State → Change → Type 0
    Goes s what = Becomes wait time name said (at s) (after s what)

    goes : (s : State) (what : Change) → AliveNode time inc details (at s) (after s what) → Goes s what
    goes s what a = (after s what, handles.said_alive inc details joins refl a, resets.kept refl)

    abbrev pub node_alive : ℕ → DetailsValue → Node
    node_alive t x = record { state = node.alive; inc = inc; details = x; changed = Some t }

    -- alive since then, with the versions that were known
    made : (t : ℕ) → Some (node_alive t (with_versions (Some d) details)) ≡ Some (node_alive t (record details {
      vsn = versions_after d.vsn details.vsn;
    }))
    made t = ap (λ x. Some (node_alive t x)) (same_versions d details)

    module _ (sound : ¬ AreWrong details.vsn) where
      abbrev pub again : State → Change
      again s = alive_again s time (entry s) inc (with_versions (Some d) details) joins

      newer : (s : State) → IsMemberState s → at s ≡ Some (this s) → IsSamePlace d details → i < inc
          → Goes s (again s)
      newer state.Noted ok is same lt =
          goes state.Noted (again state.Noted) (on_alive.newer (this state.Noted) sound is same lt (made time))
      newer state.Seen ok is same lt = absurd ok
      newer state.Alive ok is same lt =
          goes state.Alive (again state.Alive) (on_alive.newer (this state.Alive) sound is same lt (made since))
      newer (state.Suspect by) ok is same lt =
          goes (state.Suspect by) (again (state.Suspect by)) (on_alive.newer (this (state.Suspect by)) sound is same lt (made time))
      newer (state.Dead by) ok is same lt =
          goes (state.Dead by) (again (state.Dead by)) (on_alive.newer (this (state.Dead by)) sound is same lt (made time))
      newer state.Left ok is same lt = goes state.Left (again state.Left) (on_alive.newer (this state.Left) sound is same lt (made time))

      abbrev pub conflicting : State → Change
      conflicting s = Some (record (entry s) { rivals = rivals ++ details ∷ [] }, event.Conflict)

      -- a conflict
      rival : (s : State) → at s ≡ Some (this s) → ¬ IsSamePlace d details → state_of s ≢ node.left
          → Goes s (if is_passed_rival rivals details then None else conflicting s)
      rival s is other stays = by_change (Goes s) (is_passed_rival rivals details) None (conflicting s)
          (λ _. goes s None (on_alive.conflict (this s) sound is other stays refl))
          (λ _. goes s (conflicting s) (on_alive.conflict (this s) sound is other stays refl))

      elsewhere : (s : State) → at s ≡ Some (this s) → ¬ IsSamePlace d details → Goes s (alive_elsewhere time (entry s) inc details)
      elsewhere state.Noted is other = rival state.Noted is other (λ h. cc (h))
      elsewhere state.Seen is other = rival state.Seen is other (λ h. cc (h))
      elsewhere state.Alive is other = rival state.Alive is other (λ h. cc (h))
      elsewhere (state.Suspect by) is other = rival (state.Suspect by) is other (λ h. cc (h))
      elsewhere (state.Dead by) is other = rival (state.Dead by) is other (λ h. cc (h))
      elsewhere state.Left is other =
          goes state.Left (Some (alive_since time inc (with_versions (Some d) details), event.Back))
          (on_alive.moved (this state.Left) sound is other refl (made time))

      -- one that is forgotten begins anew
      anew : (s : State) → at s ≡ None → Goes s (alive_after time inc details)
      anew s is = by_change (Goes s) (nat_lt 0 inc) _ None
          (λ lt. goes s (Some (alive_since time inc details, event.Back)) (on_alive.joined sound is (is_lt 0 inc lt) refl))
          (λ zero. (
            Some (record { state = node.dead; inc = 0; details = details; changed = None }),
            handles.said_alive inc details joins refl (on_alive.stored sound is (is_0 inc zero) refl),
            resets.forgotten _ refl refl tt is,
          ))

      alive_goes : (s : State) → IsMemberState s → Goes s (alive wait time (entry s) inc details joins)
      alive_goes s ok = by_change (Goes s) (is_forgotten wait time (entry s)) _ _
          (λ f. anew s (forgotten s f))
          (λ f. by_change (Goes s) (is_same_place d details) _ _
          (λ same. by_change (Goes s) (nat_le inc i) None _
          (λ le. goes s None (on_alive.older (this s) sound (there s f) (are_same d details same) (is_le inc i le) refl))
          (λ above. newer s ok (there s f) (are_same d details same) (is_above inc i above)))
          (λ other. elsewhere s (there s f) (not_same other)))
        where
          not_same : is_same_place d details ≡ false → ¬ IsSamePlace d details
          not_same other same = let h = is_same d details same in absurd (cc (other, h))

    said_alive_goes : (s : State) → IsMemberState s → Goes s (change_of_entry wait time (entry s) said)
    said_alive_goes s ok = by_change (Goes s) (are_sound_versions details.vsn) _ None
        (λ sound. alive_goes (sound_not_wrong details.vsn sound) s ok)
        (λ unsound. goes s None (on_alive.wrong (unsound_wrong details.vsn unsound) refl))

  -- ---- a suspicion

  module _ (inc : ℕ) (from : Option (List ℕ)) where
    abbrev pub Doubts : State → Change → Type 0
    Doubts s what = SuspectNode time inc (at s) (after s what)

    old_doubt : (s : State) → at s ≡ Some (this s) → nat_lt inc i ≡ true → Doubts s None
    old_doubt s is lt = on_suspect.older (this s) is (is_lt inc i lt) refl

    -- one that is dead, or left, or is forgotten
    no_doubt : (s : State) → is_dead_or_left (state_of s) ≡ true → Doubts s None
    no_doubt s gone = by_forgotten (is_forgotten wait time (entry s)) refl
      where
        by_inc : at s ≡ Some (this s) → (b : Bool) → nat_lt inc i ≡ b → Doubts s None
        by_inc is true lt = old_doubt s is lt
        by_inc is false ge = on_suspect.gone (this s) is (is_ge inc i ge) gone refl

        by_forgotten : (b : Bool) → is_forgotten wait time (entry s) ≡ b → Doubts s None
        by_forgotten true f = on_suspect.unknown (forgotten s f) refl
        by_forgotten false f = by_inc (there s f) (nat_lt inc i) refl

    accused_goes : (by : List (List ℕ)) (o : Option (List ℕ)) → i ≤ inc
        → Doubts (state.Suspect by) (accused by (entry (state.Suspect by)) o)
    accused_goes by None le = on_suspect.confirmed (this (state.Suspect by)) refl le refl refl
    accused_goes by (Some f) le = by_change (Doubts (state.Suspect by)) (is_passed_over f by) None _
        (λ _. on_suspect.confirmed (this (state.Suspect by)) refl le refl refl)
        (λ _. on_suspect.confirmed (this (state.Suspect by)) refl le refl refl)

    suspected_goes : (s : State) → IsMemberState s → is_noted s ≡ false
        → Doubts s (if nat_lt inc i then None else suspected s time (entry s) inc from)
    suspected_goes state.Noted ok known = absurd (cc (known))
    suspected_goes state.Seen ok known = absurd ok
    suspected_goes state.Alive ok known = by_change (Doubts state.Alive) (nat_lt inc i) None
        (suspect_since time (entry state.Alive) inc from)
        (λ lt. old_doubt state.Alive refl lt) (λ ge. on_suspect.suspected (this state.Alive) refl (is_ge inc i ge) refl refl)
    suspected_goes (state.Suspect by) ok known = by_change (Doubts (state.Suspect by)) (nat_lt inc i) None
        (accused by (entry (state.Suspect by)) from)
        (λ lt. old_doubt (state.Suspect by) refl lt) (λ ge. accused_goes by from (is_ge inc i ge))
    suspected_goes (state.Dead by) ok known = by_change (Doubts (state.Dead by)) (nat_lt inc i) None None
        (λ _. no_doubt (state.Dead by) refl) (λ _. no_doubt (state.Dead by) refl)
    suspected_goes state.Left ok known = by_change (Doubts state.Left) (nat_lt inc i) None None
        (λ _. no_doubt state.Left refl) (λ _. no_doubt state.Left refl)

    -- of one that is only noted, which a member passes over
    noted_doubt : Doubts state.Noted None
    noted_doubt = no_doubt state.Noted refl

  -- ---- a death or a leave

  module _ (inc : ℕ) (end : NodeState) where
    abbrev pub Ends : State → Change → Type 0
    Ends s what = DeadNode end time inc (at s) (after s what)

    old_end : (s : State) → at s ≡ Some (this s) → nat_lt inc i ≡ true → Ends s None
    old_end s is lt = on_dead.older (this s) is (is_lt inc i lt) refl

    no_end : (s : State) → is_dead_or_left (state_of s) ≡ true → Ends s None
    no_end s gone = by_forgotten (is_forgotten wait time (entry s)) refl
      where
        by_inc : at s ≡ Some (this s) → (b : Bool) → nat_lt inc i ≡ b → Ends s None
        by_inc is true lt = old_end s is lt
        by_inc is false ge = on_dead.gone (this s) is (is_ge inc i ge) gone refl

        by_forgotten : (b : Bool) → is_forgotten wait time (entry s) ≡ b → Ends s None
        by_forgotten true f = on_dead.unknown (forgotten s f) refl
        by_forgotten false f = by_inc (there s f) (nat_lt inc i) refl

    module _ (final : State) (what : Event) (is_final : is_gone final ≡ true) (as_node : state_of final ≡ end)
        (not_noted : is_noted final ≡ false) where
      abbrev pub ending : State → Change
      ending s = ended final what time (entry s) inc

      abbrev pub final_entry : State → Entry
      final_entry s = record (entry s) { state = final; inc = inc; since = time }

      just_now : nat_lt wait (time - time) ≡ false
      just_now = grind (arith, nat_tests)

      -- who is dead since now is not forgotten
      ended_node : (s : State) → node_at wait time (Some (final_entry s))
          ≡ Some (record { state = end; inc = inc; details = d; changed = Some time })
      ended_node s = when_false (is_gone final && nat_lt wait (time - time)) None _ (no_second (is_gone final) just_now)
          ∙ (ap (λ c. Some (record { state = state_of final; inc = inc; details = d; changed = c })) (since_now final not_noted)
          ∙ ap (λ n. Some (record { state = n; inc = inc; details = d; changed = Some time })) as_node)
        where
          no_second : (a : Bool) {b : Bool} → b ≡ false → (a && b) ≡ false
          no_second true h = h
          no_second false h = refl

          since_now : (s : State) → is_noted s ≡ false → changed_of s time ≡ Some time
          since_now state.Noted h = absurd (cc (h))
          since_now state.Seen h = refl
          since_now state.Alive h = refl
          since_now (state.Suspect by) h = refl
          since_now (state.Dead by) h = refl
          since_now state.Left h = refl

      new_end : (s : State) → at s ≡ Some (this s) → is_dead_or_left (state_of s) ≡ false
          → Ends s (if nat_lt inc i then None else Some (final_entry s, what))
      new_end s is here = by_change (Ends s) (nat_lt inc i) None (Some (final_entry s, what))
          (λ lt. old_end s is lt) (λ ge. on_dead.ended (this s) is (is_ge inc i ge) here (ended_node s))

      ended_goes : (s : State) → IsMemberState s → is_noted s ≡ false → Ends s (if nat_lt inc i then None else ending s)
      ended_goes state.Noted ok known = absurd (cc (known))
      ended_goes state.Seen ok known = absurd ok
      ended_goes state.Alive ok known = new_end state.Alive refl refl
      ended_goes (state.Suspect by) ok known = new_end (state.Suspect by) refl refl
      ended_goes (state.Dead by) ok known = by_change (Ends (state.Dead by)) (nat_lt inc i) None None
          (λ _. no_end (state.Dead by) refl) (λ _. no_end (state.Dead by) refl)
      ended_goes state.Left ok known = by_change (Ends state.Left) (nat_lt inc i) None None
          (λ _. no_end state.Left refl) (λ _. no_end state.Left refl)

  -- ---- whatever is said

  abbrev pub Steps : State → Said → Change → Type 0
  Steps s said what = Becomes wait time (about said) said (at s) (after s what)

  -- of one that is known
  module _ (s : State) (ok : IsMemberState s) (known : is_noted s ≡ false) where
    dead_by : (name : List ℕ) (inc : ℕ) (from : List ℕ) → from ≢ name → Steps s (Dead name inc (Some from))
        (if nat_lt inc i then None else ended (state.Dead (Some from)) event.Dead time (entry s) inc)
    dead_by name inc from other = (
      _,
      handles.said_dead inc from refl other (ended_goes inc node.dead (state.Dead (Some from)) event.Dead refl refl refl s ok known),
      resets.kept refl,
    )

    dead_steps : (name : List ℕ) (inc : ℕ) (from : Option (List ℕ))
        → Steps s (Dead name inc from) (if nat_lt inc i then None else ended_by name from time (entry s) inc)
    dead_steps name inc None = (_, handles.said_dead_in_record inc refl (suspected_goes inc None s ok known), resets.kept refl)
    dead_steps name inc (Some from) = by_answer (name_cmp name from) refl
      where
        by_answer : (o : Ordering) → name_cmp name from ≡ o → Steps s (Dead name inc (Some from))
            (if nat_lt inc i then None
            else if is_eq o then ended state.Left event.Left time (entry s) inc
            else ended (state.Dead (Some from)) event.Dead time (entry s) inc)
        by_answer Equal e = (
          _,
          handles.said_dead_itself inc (itself_said name from inc e)
              (ended_goes inc node.left state.Left event.Left refl refl refl s ok known),
          resets.kept refl,
        )
        by_answer Less e = dead_by name inc from (not_itself name from Less e (λ h. cc (h)))
        by_answer Greater e = dead_by name inc from (not_itself name from Greater e (λ h. cc (h)))

    known_steps : (said : Said) → Steps s said (change_of_entry wait time (entry s) said)
    known_steps (Alive name inc details joins) = said_alive_goes name inc details joins s ok
    known_steps (Suspect name inc from) = (_, handles.said_suspect inc from refl (suspected_goes inc from s ok known), resets.kept refl)
    known_steps (Dead name inc from) = dead_steps name inc from
    known_steps (Left name inc) = (
      _,
      handles.said_left inc refl (ended_goes inc node.left state.Left event.Left refl refl refl s ok known),
      resets.kept refl,
    )
    known_steps (Seen name place) = (_, handles.only_seen place refl refl, resets.kept refl)

  -- of one that is only noted
  noted_dead : (name : List ℕ) (inc : ℕ) (from : List ℕ) (o : Ordering) → name_cmp name from ≡ o
      → Steps state.Noted (Dead name inc (Some from)) None
  noted_dead name inc from Equal e =
      (_, handles.said_dead_itself inc (itself_said name from inc e) (no_end inc node.left state.Noted refl), resets.kept refl)
  noted_dead name inc from Less e = (
    _,
    handles.said_dead inc from refl (not_itself name from Less e (λ h. cc (h))) (no_end inc node.dead state.Noted refl),
    resets.kept refl,
  )
  noted_dead name inc from Greater e = (
    _,
    handles.said_dead inc from refl (not_itself name from Greater e (λ h. cc (h))) (no_end inc node.dead state.Noted refl),
    resets.kept refl,
  )

-- what a member shows for the name after something about it
abbrev pub member_entry : ℕ → ℕ → Option Entry → Said → Option Entry
member_entry wait time old said = if is_alive said || is_known old then changed old (change_by wait time old said) else old

or_true : (a : Bool) → (a || true) ≡ true
or_true true = refl
or_true false = refl

abbrev pub Steps_to : ℕ → ℕ → Option Entry → Said → Type 0
Steps_to wait time old said =
    Becomes wait time (about said) said (node_at wait time old) (node_at wait time (member_entry wait time old said))

module _ (wait time : ℕ) where
  new_steps : (said : Said) → Steps_to wait time None said
  new_steps (Alive name inc details joins) = by_change
      (λ what. Becomes wait time name (Alive name inc details joins) None (node_at wait time (changed None what)))
      (are_sound_versions details.vsn) (alive wait time (blank time) inc details joins) None
      (λ sound. by_change (λ what. Becomes wait time name (Alive name inc details joins) None (node_at wait time (changed None what)))
      (nat_le inc 0) (Some (record (blank time) { details = Some details }, event.Known))
      (Some (alive_since time inc details, first_event joins))
      (λ le. (
        _,
        handles.said_alive inc details joins refl
            (on_alive.stored (sound_not_wrong details.vsn sound) refl (is_none inc le) refl),
        resets.kept refl,
      ))
      (λ above. (
        _,
        handles.said_alive inc details joins refl
            (on_alive.joined (sound_not_wrong details.vsn sound) refl (is_above_0 inc above) refl),
        resets.kept refl,
      )))
      (λ unsound. (
        None,
        handles.said_alive inc details joins refl
            (on_alive.wrong (unsound_wrong details.vsn unsound) refl),
        resets.kept refl,
      ))
  new_steps (Suspect name inc from) = (None, handles.said_suspect inc from refl (on_suspect.unknown refl refl), resets.kept refl)
  new_steps (Dead name inc None) = (None, handles.said_dead_in_record inc refl (on_suspect.unknown refl refl), resets.kept refl)
  new_steps (Dead name inc (Some from)) = by_answer (name_cmp name from) refl
    where
      by_answer : (o : Ordering) → name_cmp name from ≡ o → Becomes wait time name (Dead name inc (Some from)) None None
      by_answer Equal e = (
        None,
        handles.said_dead_itself inc (ap (λ n. Dead name inc (Some n)) (sym (exact_bytes name from e))) (on_dead.unknown refl refl),
        resets.kept refl,
      )
      by_answer Less e = (
        None,
        handles.said_dead inc from refl (not_itself name from Less e (λ h. cc (h))) (on_dead.unknown refl refl),
        resets.kept refl,
      )
      by_answer Greater e = (
        None,
        handles.said_dead inc from refl (not_itself name from Greater e (λ h. cc (h))) (on_dead.unknown refl refl),
        resets.kept refl,
      )
  new_steps (Left name inc) = (None, handles.said_left inc refl (on_dead.unknown refl refl), resets.kept refl)
  new_steps (Seen name place) = (None, handles.only_seen place refl refl, resets.kept refl)

  known_to : (s : State) (i since : ℕ) (d : DetailsValue) (seen : Option DetailsValue) (rivals : List DetailsValue) → IsMemberState s
      → (b : Bool) → is_noted s ≡ b → (said : Said) → Steps_to wait time (Some (entry wait time i d seen since rivals s)) said
  known_to s i since d seen rivals ok false known said = subst
      (λ o. Becomes wait time (about said) said (node_at wait time old) (node_at wait time o))
      (sym (when_true (is_alive said || not (is_noted s)) (changed old (change_of_entry wait time e said)) old heeds))
      (known_steps wait time i d seen since rivals s ok known said)
    where
      e : Entry
      e = entry wait time i d seen since rivals s

      old : Option Entry
      old = Some e

      heeds : (is_alive said || not (is_noted s)) ≡ true
      heeds = ap (λ n. is_alive said || not n) known ∙ or_true (is_alive said)
  known_to state.Noted i since d seen rivals ok true is (Alive name inc details joins) =
      said_alive_goes wait time i d seen since rivals name inc details joins state.Noted tt
  known_to state.Noted i since d seen rivals ok true is (Suspect name inc from) =
      (_, handles.said_suspect inc from refl (noted_doubt wait time i d seen since rivals inc from), resets.kept refl)
  known_to state.Noted i since d seen rivals ok true is (Dead name inc None) =
      (_, handles.said_dead_in_record inc refl (noted_doubt wait time i d seen since rivals inc None), resets.kept refl)
  known_to state.Noted i since d seen rivals ok true is (Dead name inc (Some from)) =
      noted_dead wait time i d seen since rivals name inc from (name_cmp name from) refl
  known_to state.Noted i since d seen rivals ok true is (Left name inc) =
      (_, handles.said_left inc refl (no_end wait time i d seen since rivals inc node.left state.Noted refl), resets.kept refl)
  known_to state.Noted i since d seen rivals ok true is (Seen name place) = (_, handles.only_seen place refl refl, resets.kept refl)
  known_to state.Seen i since d seen rivals ok true is said = absurd ok
  known_to state.Alive i since d seen rivals ok true is said = absurd (cc (is))
  known_to (state.Suspect by) i since d seen rivals ok true is said = absurd (cc (is))
  known_to (state.Dead by) i since d seen rivals ok true is said = absurd (cc (is))
  known_to state.Left i since d seen rivals ok true is said = absurd (cc (is))

  pub steps : (old : Option Entry) (said : Said) → IsOfMember old → Steps_to wait time old said
  steps None said ok = new_steps said
  steps (Some e) said ok = by_details e.details ok.0
    where
      by_details : (o : Option DetailsValue) → IsSome o → Steps_to wait time (Some (record e { details = o })) said
      by_details None none = absurd (cc (none))
      by_details (Some d) some = known_to e.state e.inc e.since d e.seen e.rivals ok.1 (is_noted e.state) refl said
