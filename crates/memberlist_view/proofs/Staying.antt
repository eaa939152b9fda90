-- A member that is dead or left stays so until it is brought back.
use Rattle.std.proofs.Common.{◌≡◌, ℕ, ◌<◌, Bool, true, false, nat_lt, nat_le, Option, Some, None, IfSome, List, [], ◌∷◌}
use Rattle.std.proofs.Common.{◌++◌, Contains, if◌then◌else◌, ◌-◌, refl, sym, ap, subst, ◌∙◌, arith}
use Rattle.std.specs.Option.{is_none}
use Rattle.std.specs.Ordering.{is_eq}
use Rattle.std.specs.declared.cmp.Ordering.{Ordering}
use Rattle.std.specs.declared.cmp.Ordering.TheVariants.{Less, Equal, Greater}
use Rattle.std.proofs.lemmas.Bool.Decides.{nat_tests}
use Rattle.std.proofs.lemmas.List.Elements.{Contains-append_left, Contains-append_right}
use Rattle.std.proofs.lemmas.Map.Lookups.{exact_bytes}
use Rattle.swim_claim.specs.Details.{DetailsValue}
use Rattle.memberlist_view.specs.declared.entry.Entry.{Entry}
use Rattle.memberlist_view.specs.declared.entry.State.{State}
use Rattle.memberlist_view.specs.declared.entry.State.TheVariants as state
use Rattle.memberlist_view.specs.declared.event.Event.{Event}
use Rattle.memberlist_view.specs.declared.event.Event.TheVariants as event
use Rattle.memberlist_view.specs.declared.heard.Heard.{Heard}
use Rattle.memberlist_view.specs.declared.heard.Said.{Said}
use Rattle.memberlist_view.specs.declared.heard.Said.TheVariants.{Alive, Suspect, Dead, Left, Seen}
use Rattle.memberlist_view.specs.Heard.{about}
use Rattle.memberlist_view.specs.Rules.{Change, name_cmp, are_sound_versions, is_same_place, is_gone, has_left}
use Rattle.memberlist_view.specs.Rules.{is_forgotten, is_passed_rival, alive_at, alive, suspected, ended}
use Rattle.memberlist_view.specs.Rules.{ended_in_record, ended_by, lacks_place, seen_in, change_of_entry, change}
use Rattle.memberlist_view.specs.Shown.{changed, shown_next, shown_from}
use Rattle.memberlist_view.specs.Sources.{Was}
use Rattle.memberlist_view.specs.Lasting.{may_be_here, may_be_elsewhere, Revives, Revives as revival, IsRevival, IsStill}
use Rattle.memberlist_view.proofs.Changing.{by_test, when_false, first_true, second_true}

is_below : (i j : ℕ) → nat_lt i j ≡ true → i < j
is_below i j h = grind (arith, nat_tests)

is_above : (i j : ℕ) → nat_le i j ≡ false → j < i
is_above i j h = grind (arith, nat_tests)

same_details : (o p : Option DetailsValue) → IfSome o (λ d. (o ≡ Some d) × (p ≡ p))
same_details None p = tt
same_details (Some d) p = (refl, refl)

itself_still : (entry : Entry) → IsStill entry entry
itself_still entry = record { state = refl; inc = refl; since = refl; details = same_details entry.details entry.seen }

-- ---- one thing heard

module _ (wait time : ℕ) (entry : Entry) (gone : is_gone entry.state ≡ true) where
  abbrev pub Stays : Entry × Event → Type 0
  Stays p = IsStill entry p.0

  -- an Alive that does not bring it back
  at_stays : (o : Option DetailsValue) (inc : ℕ) (details : DetailsValue) (joins : Bool) → entry.details ≡ o
      → ¬ Revives wait entry time inc details
      → IfSome (alive_at o time entry inc details joins) Stays
  at_stays None inc details joins none not = by_test Stays (nat_le inc entry.inc) _ _
      (λ _. record {
        state = refl;
        inc = refl;
        since = refl;
        details = subst (λ o. IfSome o (λ d. (Some details ≡ Some d) × (entry.seen ≡ entry.seen)))
            (sym none) tt;
      })
      (λ above. absurd (not (revival.greater (ap (λ o. may_be_here o details) none) (is_above inc entry.inc above))))
  at_stays (Some old) inc details joins some not = by_test Stays (is_same_place old details) _ _
      (λ here. by_test Stays (nat_le inc entry.inc) None _ (λ _. tt)
      (λ above. absurd (not (revival.greater (ap (λ o. may_be_here o details) some ∙ here) (is_above inc entry.inc above)))))
      (λ there. by_test Stays (has_left entry.state) _ _
      (λ left. absurd (not (revival.moved left
      (ap (λ o. may_be_elsewhere o details) some
      ∙ when_false (is_same_place old details) false true there))))
      (λ _. by_test Stays (is_passed_rival entry.rivals details) None _ (λ _. tt)
      (λ _. record { state = refl; inc = refl; since = refl; details = same_details entry.details entry.seen })))

  alive_stays : (inc : ℕ) (details : DetailsValue) (joins : Bool) → ¬ Revives wait entry time inc details
      → IfSome (alive wait time entry inc details joins) Stays
  alive_stays inc details joins not = by_test Stays (is_forgotten wait time entry) _ _
      (λ late. by_test Stays (nat_lt 0 inc) _ None
      (λ some. absurd (not (revival.late (first_true (is_gone entry.state) _ late)
      (is_below _ _ (second_true (is_gone entry.state) _ late)) (is_below 0 inc some))))
      (λ _. tt))
      (λ _. at_stays entry.details inc details joins refl not)

  suspected_stays : (s : State) (inc : ℕ) (from : Option (List ℕ)) → is_gone s ≡ true → IfSome (suspected s time entry inc from) Stays
  suspected_stays state.Noted inc from h = absurd (cc (h))
  suspected_stays state.Seen inc from h = absurd (cc (h))
  suspected_stays state.Alive inc from h = absurd (cc (h))
  suspected_stays (state.Suspect by) inc from h = absurd (cc (h))
  suspected_stays (state.Dead by) inc from h = tt
  suspected_stays state.Left inc from h = tt

  ended_stays : (end : State) (what : Event) (inc : ℕ) → IfSome (ended end what time entry inc) Stays
  ended_stays end what inc = by_test Stays (is_gone entry.state) None _ (λ _. tt) (λ not. absurd (cc (gone, not)))

  in_record_stays : (o : Option DetailsValue) (inc : ℕ) → IfSome (ended_in_record o time entry inc) Stays
  in_record_stays None inc = ended_stays (state.Dead None) event.Dead inc
  in_record_stays (Some d) inc = suspected_stays entry.state inc None gone

  ended_by_stays : (name : List ℕ) (from : Option (List ℕ)) (inc : ℕ) → IfSome (ended_by name from time entry inc) Stays
  ended_by_stays name None inc = in_record_stays entry.details inc
  ended_by_stays name (Some from) inc =
      by_test Stays (is_eq (name_cmp name from)) _ _ (λ _. ended_stays state.Left event.Left inc)
      (λ _. ended_stays (state.Dead (Some from)) event.Dead inc)

  seen_too : (place : DetailsValue) → lacks_place entry ≡ true → IsStill entry (record entry { seen = Some place })
  seen_too place lacks = record { state = refl; inc = refl; since = refl; details = unknown entry.details refl lacks }
    where
      unknown : (o : Option DetailsValue) → entry.details ≡ o → lacks_place entry ≡ true
          → IfSome o (λ d. (entry.details ≡ Some d) × (Some place ≡ entry.seen))
      unknown None e h = tt
      unknown (Some d) e h = absurd (some_lacks d e h)
        where
          some_lacks : (d : DetailsValue) → entry.details ≡ Some d → lacks_place entry ≡ true → ⊥
          some_lacks d e h = let f : is_none entry.details ≡ false = ap is_none e
              in let t = first_true (is_none entry.details) (is_none entry.seen) h in cc (f, t)

  seen_in_stays : (s : State) (place : DetailsValue) → is_gone s ≡ true → lacks_place entry ≡ true
      → IsStill entry (seen_in s time entry place)
  seen_in_stays state.Noted place h lacks = absurd (cc (h))
  seen_in_stays state.Seen place h lacks = absurd (cc (h))
  seen_in_stays state.Alive place h lacks = absurd (cc (h))
  seen_in_stays (state.Suspect by) place h lacks = absurd (cc (h))
  seen_in_stays (state.Dead by) place h lacks = seen_too place lacks
  seen_in_stays state.Left place h lacks = seen_too place lacks

  said_stays : (name : List ℕ) (said : Said) → about said ≡ name → ¬ IsRevival wait name entry (record { time = time; said = said })
      → IfSome (change_of_entry wait time entry said) Stays
  said_stays name (Alive n inc details joins) e not = by_test Stays (are_sound_versions details.vsn) _ None
      (λ sound. alive_stays inc details joins
      (λ revives. not (inc, details, joins, ap (λ m. Alive m inc details joins) e, sound, revives)))
      (λ _. tt)
  said_stays name (Suspect n inc from) e not = by_test Stays (nat_lt inc entry.inc) None _ (λ _. tt)
      (λ _. suspected_stays entry.state inc from gone)
  said_stays name (Dead n inc from) e not = by_test Stays (nat_lt inc entry.inc) None _ (λ _. tt) (λ _. ended_by_stays n from inc)
  said_stays name (Left n inc) e not = by_test Stays (nat_lt inc entry.inc) None _ (λ _. tt) (λ _. ended_stays state.Left event.Left inc)
  said_stays name (Seen n place) e not = by_test Stays (lacks_place entry) _ None
      (λ lacks. seen_in_stays entry.state place gone lacks) (λ _. tt)

-- ---- the whole list

changed_still : (entry : Entry) (what : Change) → IfSome what (λ p. IsStill entry p.0)
    → (after : Entry) × (changed (Some entry) what ≡ Some after) × IsStill entry after
changed_still entry None h = (entry, refl, itself_still entry)
changed_still entry (Some p) h = (p.0, refl, h)

next_still : (wait : ℕ) (name : List ℕ) (entry : Entry) (heard : Heard) → is_gone entry.state ≡ true → ¬ IsRevival wait name entry heard
    → (after : Entry) × (shown_next wait name (Some entry) heard ≡ Some after) × IsStill entry after
next_still wait name entry heard gone not = by_answer (name_cmp name (about heard.said)) refl
  where
    by_answer : (o : Ordering) → name_cmp name (about heard.said) ≡ o
        → (after : Entry) × ((if is_eq o then changed (Some entry)
        (change wait (Some entry) heard) else Some entry) ≡ Some after) × IsStill entry after
    by_answer Less e = (entry, refl, itself_still entry)
    by_answer Greater e = (entry, refl, itself_still entry)
    by_answer Equal e = changed_still entry (change wait (Some entry) heard)
        (said_stays wait heard.time entry gone name heard.said (sym (exact_bytes name (about heard.said) e)) not)

-- what may be here or elsewhere by what is known later, may be so by what was known before
here_before : (o p : Option DetailsValue) (d : DetailsValue) → IfSome o (λ e. p ≡ Some e) → may_be_here p d ≡ true → may_be_here o d ≡ true
here_before None p d same h = refl
here_before (Some e) p d same h = ap (λ q. may_be_here q d) (sym same) ∙ h

elsewhere_before : (o p : Option DetailsValue) (d : DetailsValue) → IfSome o (λ e. p ≡ Some e)
    → may_be_elsewhere p d ≡ true → may_be_elsewhere o d ≡ true
elsewhere_before None p d same h = refl
elsewhere_before (Some e) p d same h = ap (λ q. may_be_elsewhere q d) (sym same) ∙ h

first_of : (o p : Option DetailsValue) (A : Type 0) → IfSome o (λ d. (p ≡ Some d) × A) → IfSome o (λ d. p ≡ Some d)
first_of None p A h = tt
first_of (Some d) p A h = h.0

-- what brings it back later would have brought it back before
same_revival : (wait : ℕ) (entry after : Entry) → IsStill entry after → (time inc : ℕ) (details : DetailsValue)
    → Revives wait after time inc details → Revives wait entry time inc details
same_revival wait entry after still time inc details (revival.greater here above) =
    revival.greater (here_before entry.details after.details details
    (first_of entry.details after.details _ still.details) here)
    (subst (λ i. i < inc) still.inc above)
same_revival wait entry after still time inc details (revival.late dead later some) =
    revival.late (sym (ap is_gone still.state) ∙ dead) (subst (λ s. wait < time - s) still.since later) some
same_revival wait entry after still time inc details (revival.moved left there) =
    revival.moved (sym (ap has_left still.state) ∙ left)
    (elsewhere_before entry.details after.details details
    (first_of entry.details after.details _ still.details) there)

still_again : (a b c : Entry) → IsStill a b → IsStill b c → IsStill a c
still_again a b c p q = record {
  state = q.state ∙ p.state;
  inc = q.inc ∙ p.inc;
  since = q.since ∙ p.since;
  details = both a.details p.details;
}
  where
    both : (o : Option DetailsValue) → IfSome o (λ d. (b.details ≡ Some d) × (b.seen ≡ a.seen))
        → IfSome o (λ d. (c.details ≡ Some d) × (c.seen ≡ a.seen))
    both None h = tt
    both (Some d) h = let r = subst (λ o. IfSome o (λ e. (c.details ≡ Some e) × (c.seen ≡ b.seen))) h.0 q.details in (r.0, r.1 ∙ h.1)

pub shown_still : (wait : ℕ) (name : List ℕ) (later : List Heard) (entry : Entry)
    → is_gone entry.state ≡ true → ¬ Was later (IsRevival wait name entry)
    → (after : Entry) × (shown_from wait name (Some entry) later ≡ Some after) × IsStill entry after
shown_still wait name [] entry gone not = (entry, refl, itself_still entry)
shown_still wait name (heard ∷ later) entry gone not =
    let first : Contains (heard ∷ later) heard = Contains-append_left (heard ∷ []) later heard (0, omega arith, refl) in
    let now = next_still wait name entry heard gone (λ r. not (heard, first, r)) in
    let rest = shown_still wait name later now.0 (ap is_gone now.2.state ∙ gone) (λ w. not (
      w.0,
      Contains-append_right (heard ∷ []) later w.0 w.1,
      (w.2.0, w.2.1, w.2.2, w.2.3, w.2.4, same_revival wait entry now.0 now.2 w.0.time w.2.0 w.2.1 w.2.5),
    )) in
    (rest.0, ap (λ o. shown_from wait name o later) now.1 ∙ rest.1, still_again entry now.0 rest.0 now.2 rest.2)

pub shown_from-append : (wait : ℕ) (name : List ℕ) (old : Option Entry) (past later : List Heard)
    → shown_from wait name old (past ++ later) ≡ shown_from wait name (shown_from wait name old past) later
shown_from-append wait name old [] later = refl
shown_from-append wait name old (first ∷ past) later = shown_from-append wait name (shown_next wait name old first) past later
