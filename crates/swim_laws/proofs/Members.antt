-- A member's view, name by name.
use Rattle.std.proofs.Common.{◌≡◌, ◌≢◌, ℕ, ◌<◌, ◌≤◌, ◌-◌, Bool, true, false, ◌&&◌, ◌||◌, not, cond, nat_lt, nat_le, Option, Some, None}
use Rattle.std.proofs.Common.{IsSome, List, if◌then◌else◌, refl, sym, ap, subst, ◌∙◌, arith}
use Rattle.std.specs.Map.{keys_of}
use Rattle.std.specs.Option.{is_none}
use Rattle.std.specs.Ordering.{is_eq}
use Rattle.std.specs.declared.cmp.Ordering.{Ordering}
use Rattle.std.specs.declared.cmp.Ordering.TheVariants.{Less, Equal, Greater}
use Rattle.std.proofs.lemmas.Bool.Decides.{nat_tests}
use Rattle.std.proofs.lemmas.Cmp.{eq_by_cmp_equiv, nat_list_cmp_total}
use Rattle.std.proofs.lemmas.Map.Entries.{option_filter, lookup-filter-values}
use Rattle.std.proofs.lemmas.Map.Keys.{IsDistinct-from_sorted}
use Rattle.std.proofs.lemmas.Map.Lookups.{exact_bytes}
use Rattle.swim_claim.specs.Details.{DetailsValue}
use Rattle.memberlist_view.specs.declared.entry.Entry.{Entry}
use Rattle.memberlist_view.specs.declared.entry.State.{State}
use Rattle.memberlist_view.specs.declared.entry.State.TheVariants as state
use Rattle.memberlist_view.specs.declared.event.Event.TheVariants as event
use Rattle.memberlist_view.specs.declared.heard.Heard.{Heard}
use Rattle.memberlist_view.specs.declared.heard.Said.{Said}
use Rattle.memberlist_view.specs.declared.heard.Said.TheVariants.{Alive, Suspect, Dead, Left, Seen}
use Rattle.memberlist_view.specs.Heard.{about}
use Rattle.memberlist_view.specs.Member.{is_alive, is_noted, is_known, is_heeded, is_dropped, member_view_after, view_without_dropped}
use Rattle.memberlist_view.specs.Rules.{Change, name_cmp, are_sound_versions, is_same_place, is_gone, has_left, is_forgotten}
use Rattle.memberlist_view.specs.Rules.{is_passed_over, is_passed_rival, alive_again, alive_at, alive, accused, suspected, ended}
use Rattle.memberlist_view.specs.Rules.{ended_in_record, ended_by, seen_in, seen_at, blank, change_of_entry, change}
use Rattle.memberlist_view.specs.Shown.{changed, shown_next}
use Rattle.memberlist_view.specs.Told.{ViewValue, IsAscending, entry_of, view_after}
use Rattle.memberlist_view.proofs.Changing.{when_true, when_false, first_true, second_true}
use Rattle.memberlist_view.proofs.Inserting.{itself}
use Rattle.memberlist_view.proofs.Viewing.{entry_of-after}
use Rattle.swim_laws.specs.Nodes.{state_of, changed_of, node_of, node_at, IsMemberState, IsOfMember, Becomes}
use Rattle.swim_laws.specs.State.{Node, is_dead_or_left, IsOver, Resets, Resets as resets}
use Rattle.swim_laws.proofs.Stepping.{member_entry, steps, by_change}

-- ---- one name

-- what is about others changes nothing
apart : (view : ViewValue) (heard : Heard) (name : List ℕ) → about heard.said ≢ name
    → shown_next view.wait name (entry_of view name) heard ≡ entry_of view name
apart view heard name other = by_answer (name_cmp name (about heard.said)) refl
  where
    by_answer : (o : Ordering) → name_cmp name (about heard.said) ≡ o
        → (if is_eq o then changed (entry_of view name) (change view.wait (entry_of view name) heard) else entry_of view name)
        ≡ entry_of view name
    by_answer Less e = refl
    by_answer Greater e = refl
    by_answer Equal e = absurd (other (sym (exact_bytes name (about heard.said) e)))

view_if : (b : Bool) (view after : ViewValue) (name : List ℕ) → entry_of (if b then after else view) name
    ≡ (if b then entry_of after name else entry_of view name)
view_if true view after name = refl
view_if false view after name = refl

either_same : {A : Type 0} (b : Bool) (x y z : A) → x ≡ z → y ≡ z → (if b then x else y) ≡ z
either_same true x y z p q = p
either_same false x y z p q = q

pub others_stay : (view : ViewValue) (heard : Heard) (name : List ℕ) → about heard.said ≢ name
    → entry_of (member_view_after view heard) name ≡ entry_of view name
others_stay view heard name other =
    view_if (is_heeded view heard) view (view_after view heard) name
    ∙ either_same (is_heeded view heard) (entry_of (view_after view heard) name) (entry_of view name) (entry_of view name)
    (entry_of-after view heard name ∙ apart view heard name other) refl

own_after : (view : ViewValue) (heard : Heard) → entry_of (member_view_after view heard) (about heard.said)
    ≡ member_entry view.wait heard.time (entry_of view (about heard.said)) heard.said
own_after view heard =
    view_if (is_heeded view heard) view (view_after view heard) (about heard.said)
    ∙ ap (λ o. if is_heeded view heard then o else entry_of view (about heard.said))
    (entry_of-after view heard (about heard.said) ∙ ap (λ o. if is_eq o then changed (entry_of view (about heard.said))
    (change view.wait (entry_of view (about heard.said)) heard) else entry_of view (about heard.said)) (itself (about heard.said)))

pub member_steps : (view : ViewValue) (heard : Heard) (name : List ℕ) → about heard.said ≡ name → IsOfMember (entry_of view name)
    → Becomes view.wait heard.time name heard.said (node_at view.wait heard.time (entry_of view name))
    (node_at view.wait heard.time (entry_of (member_view_after view heard) name))
member_steps view heard name is = subst
    (λ n. IsOfMember (entry_of view n) → Becomes view.wait heard.time n heard.said (node_at view.wait heard.time (entry_of view n))
    (node_at view.wait heard.time (entry_of (member_view_after view heard) n))) is
    (λ ok. subst (λ o. Becomes view.wait heard.time (about heard.said) heard.said
    (node_at view.wait heard.time (entry_of view (about heard.said))) (node_at view.wait heard.time o)) (sym (own_after view heard))
    (steps view.wait heard.time (entry_of view (about heard.said)) heard.said ok))

-- ---- a member knows details of all names

module _ (wait time : ℕ) (e : Entry) (details_known : IsSome e.details) (ok : IsMemberState e.state) where
  abbrev pub Kept : Change → Type 0
  Kept what = IsOfMember (changed (Some e) what)

  same : Kept None
  same = (details_known, ok)

  again_kept : (s : State) (inc : ℕ) (d : DetailsValue) (joins : Bool) → Kept (alive_again s time e inc d joins)
  again_kept state.Noted inc d joins = (refl, tt)
  again_kept state.Seen inc d joins = (refl, tt)
  again_kept state.Alive inc d joins = (refl, tt)
  again_kept (state.Suspect by) inc d joins = (refl, tt)
  again_kept (state.Dead by) inc d joins = (refl, tt)
  again_kept state.Left inc d joins = (refl, tt)

  at_kept : (o : Option DetailsValue) (inc : ℕ) (details : DetailsValue) (joins : Bool) → Kept (alive_at o time e inc details joins)
  at_kept None inc details joins = by_change Kept (nat_le inc e.inc) _ _ (λ _. (refl, ok)) (λ _. again_kept e.state inc _ joins)
  at_kept (Some old) inc details joins = by_change Kept (is_same_place old details) _ _
      (λ _. by_change Kept (nat_le inc e.inc) None _ (λ _. same) (λ _. again_kept e.state inc _ joins))
      (λ _. by_change Kept (has_left e.state) _ _ (λ _. (refl, tt))
      (λ _. by_change Kept (is_passed_rival e.rivals details) None _ (λ _. same) (λ _. (details_known, ok))))

  alive_kept : (inc : ℕ) (details : DetailsValue) (joins : Bool) → Kept (alive wait time e inc details joins)
  alive_kept inc details joins = by_change Kept (is_forgotten wait time e) _ _
      (λ _. by_change Kept (nat_lt 0 inc) _ None (λ _. (refl, tt)) (λ _. same)) (λ _. at_kept e.details inc details joins)

  accused_kept : (by : List (List ℕ)) (o : Option (List ℕ)) → Kept (accused by e o)
  accused_kept by None = same
  accused_kept by (Some f) = by_change Kept (is_passed_over f by) None _ (λ _. same) (λ _. (details_known, tt))

  suspected_kept : (s : State) (inc : ℕ) (from : Option (List ℕ)) → Kept (suspected s time e inc from)
  suspected_kept state.Noted inc from = (details_known, tt)
  suspected_kept state.Seen inc from = (details_known, tt)
  suspected_kept state.Alive inc from = (details_known, tt)
  suspected_kept (state.Suspect by) inc from = accused_kept by from
  suspected_kept (state.Dead by) inc from = same
  suspected_kept state.Left inc from = same

  dead_kept : (from : Option (List ℕ)) (inc : ℕ) → Kept (ended (state.Dead from) event.Dead time e inc)
  dead_kept from inc = by_change Kept (is_gone e.state) None _ (λ _. same) (λ _. (details_known, tt))

  left_kept : (inc : ℕ) → Kept (ended state.Left event.Left time e inc)
  left_kept inc = by_change Kept (is_gone e.state) None _ (λ _. same) (λ _. (details_known, tt))

  record_kept : (o : Option DetailsValue) (inc : ℕ) → Kept (ended_in_record o time e inc)
  record_kept None inc = dead_kept None inc
  record_kept (Some d) inc = suspected_kept e.state inc None

  ended_kept : (name : List ℕ) (from : Option (List ℕ)) (inc : ℕ) → Kept (ended_by name from time e inc)
  ended_kept name None inc = record_kept e.details inc
  ended_kept name (Some f) inc = by_change Kept (is_eq (name_cmp name f)) _ _ (λ _. left_kept inc) (λ _. dead_kept (Some f) inc)

  -- one whose details are known has a place
  seen_kept : (place : DetailsValue) → Kept (seen_at time e place)
  seen_kept place = by_details e.details details_known
    where
      by_details : (o : Option DetailsValue) → IsSome o
          → Kept (if is_none o && is_none e.seen then Some (seen_in e.state time e place, event.Seen) else None)
      by_details None none = absurd (cc (none))
      by_details (Some d) some = same

  said_kept : (said : Said) → Kept (change_of_entry wait time e said)
  said_kept (Alive name inc details joins) = by_change Kept (are_sound_versions details.vsn) _ None
      (λ _. alive_kept inc details joins) (λ _. same)
  said_kept (Suspect name inc from) = by_change Kept (nat_lt inc e.inc) None _ (λ _. same) (λ _. suspected_kept e.state inc from)
  said_kept (Dead name inc from) = by_change Kept (nat_lt inc e.inc) None _ (λ _. same) (λ _. ended_kept name from inc)
  said_kept (Left name inc) = by_change Kept (nat_lt inc e.inc) None _ (λ _. same) (λ _. left_kept inc)
  said_kept (Seen name place) = seen_kept place

new_kept : (wait time : ℕ) (said : Said) → IsOfMember (member_entry wait time None said)
new_kept wait time (Alive name inc details joins) = by_change (λ what. IsOfMember (changed None what))
    (are_sound_versions details.vsn) (alive wait time (blank time) inc details joins) None
    (λ _. by_change (λ what. IsOfMember (changed None what)) (nat_le inc 0) _ _ (λ _. (refl, tt)) (λ _. (refl, tt)))
    (λ _. tt)
new_kept wait time (Suspect name inc from) = tt
new_kept wait time (Dead name inc from) = tt
new_kept wait time (Left name inc) = tt
new_kept wait time (Seen name place) = tt

entry_kept : (wait time : ℕ) (old : Option Entry) (said : Said) → IsOfMember old → IsOfMember (member_entry wait time old said)
entry_kept wait time None said ok = new_kept wait time said
entry_kept wait time (Some e) said ok = by_change IsOfMember (is_alive said || is_known (Some e)) _ (Some e)
    (λ _. said_kept wait time e ok.0 ok.1 said) (λ _. ok)

pub member_kept : (view : ViewValue) (heard : Heard) (name : List ℕ) → IsOfMember (entry_of view name)
    → IsOfMember (entry_of (member_view_after view heard) name)
member_kept view heard name ok = by_answer (name_cmp name (about heard.said)) refl
  where
    other_name : (o : Ordering) → name_cmp name (about heard.said) ≡ o → o ≢ Equal → about heard.said ≢ name
    other_name o e not same = not (sym e ∙ ap (name_cmp name) same ∙ itself name)

    by_answer : (o : Ordering) → name_cmp name (about heard.said) ≡ o → IsOfMember (entry_of (member_view_after view heard) name)
    by_answer Less e = subst IsOfMember (sym (others_stay view heard name (other_name Less e (λ h. cc (h))))) ok
    by_answer Greater e = subst IsOfMember (sym (others_stay view heard name (other_name Greater e (λ h. cc (h))))) ok
    by_answer Equal e =
        let is = exact_bytes name (about heard.said) e in
        subst (λ n. IsOfMember (entry_of (member_view_after view heard) n)) (sym is)
        (subst IsOfMember (sym (own_after view heard))
        (entry_kept view.wait heard.time (entry_of view (about heard.said)) heard.said (subst (λ n. IsOfMember (entry_of view n)) is ok)))

-- ---- who is gone is forgotten

gone_node : (s : State) → is_gone s ≡ true → is_dead_or_left (state_of s) ≡ true
gone_node state.Noted h = absurd (cc (h))
gone_node state.Seen h = absurd (cc (h))
gone_node state.Alive h = absurd (cc (h))
gone_node (state.Suspect by) h = absurd (cc (h))
gone_node (state.Dead by) h = refl
gone_node state.Left h = refl

gone_over : (s : State) (wait time since : ℕ) → is_gone s ≡ true → nat_lt wait (time - since) ≡ true → IsOver wait time (changed_of s since)
gone_over state.Noted wait time since h lt = absurd (cc (h))
gone_over state.Seen wait time since h lt = absurd (cc (h))
gone_over state.Alive wait time since h lt = absurd (cc (h))
gone_over (state.Suspect by) wait time since h lt = is_less wait (time - since) lt
  where
    is_less : (i j : ℕ) → nat_lt i j ≡ true → i < j
    is_less i j h = grind (arith, nat_tests)
gone_over (state.Dead by) wait time since h lt = is_less wait (time - since) lt
  where
    is_less : (i j : ℕ) → nat_lt i j ≡ true → i < j
    is_less i j h = grind (arith, nat_tests)
gone_over state.Left wait time since h lt = is_less wait (time - since) lt
  where
    is_less : (i j : ℕ) → nat_lt i j ≡ true → i < j
    is_less i j h = grind (arith, nat_tests)

-- a node that is gone for longer than the wait
reset_gone : (wait time : ℕ) (s : State) (inc since : ℕ) (o : Option DetailsValue) (old new : Option Node)
    → (is_gone s && nat_lt wait (time - since)) ≡ true → old ≡ node_of s inc since o → new ≡ None → Resets wait time old new
reset_gone wait time s inc since None old new late is out = resets.kept (out ∙ sym is)
reset_gone wait time s inc since (Some d) old new late is out = resets.forgotten _ is (gone_node s (first_true (is_gone s) _ late))
    (gone_over s wait time since (first_true (is_gone s) _ late) (second_true (is_gone s) _ late)) out

pub waits : (wait time later : ℕ) (o : Option Entry) → time ≤ later → Resets wait later (node_at wait time o) (node_at wait later o)
waits wait time later None le = resets.kept refl
waits wait time later (Some e) le = by_now (is_forgotten wait time e) refl (is_forgotten wait later e) refl
  where
    later_too : (t l s w : ℕ) → t ≤ l → nat_lt w (t - s) ≡ true → nat_lt w (l - s) ≡ true
    later_too t l s w le lt = grind (arith, nat_tests)

    still : (b : Bool) → is_forgotten wait time e ≡ true → (b && nat_lt wait (later - e.since)) ≡ false → b ≡ true → ⊥
    still true late early is = let h = later_too time later e.since wait le (second_true (is_gone e.state) _ late) in cc (h, early)
    still false late early is = cc (is)

    none : (b : Bool) (n : Option Node) → b ≡ true → (if b then None else n) ≡ None
    none b n h = when_true b None n h

    by_now : (b : Bool) → is_forgotten wait time e ≡ b → (c : Bool) → is_forgotten wait later e ≡ c
        → Resets wait later (node_at wait time (Some e)) (node_at wait later (Some e))
    by_now true late true late_too = resets.kept (none _ _ late_too ∙ sym (none _ _ late))
    by_now true late false early = absurd (still (is_gone e.state) late early (first_true (is_gone e.state) _ late))
    by_now false early true late = reset_gone wait later e.state e.inc e.since e.details (node_at wait time (Some e))
        (node_at wait later (Some e)) late (when_false (is_forgotten wait time e) None _ early) (none _ _ late)
    by_now false early false early_too = resets.kept (when_false (is_forgotten wait later e) None _ early_too
        ∙ sym (when_false (is_forgotten wait time e) None _ early))

-- ---- who is dropped is reset

noted_node : (wait time inc since : ℕ) (s : State) (o : Option DetailsValue) (old new : Option Node) → is_noted s ≡ true
    → old ≡ node_of s inc since o → new ≡ None → Resets wait time old new
noted_node wait time inc since s None old new noted is out = resets.kept (out ∙ sym is)
noted_node wait time inc since state.Noted (Some d) old new noted is out = resets.forgotten _ is refl tt out
noted_node wait time inc since state.Seen (Some d) old new noted is out = absurd (cc (noted))
noted_node wait time inc since state.Alive (Some d) old new noted is out = absurd (cc (noted))
noted_node wait time inc since (state.Suspect by) (Some d) old new noted is out = absurd (cc (noted))
noted_node wait time inc since (state.Dead by) (Some d) old new noted is out = absurd (cc (noted))
noted_node wait time inc since state.Left (Some d) old new noted is out = absurd (cc (noted))

filtered : (wait time : ℕ) (o : Option Entry)
    → Resets wait time (node_at wait time o) (node_at wait time (option_filter (λ e. not (is_dropped wait time e)) o))
filtered wait time None = resets.kept refl
filtered wait time (Some e) = by_dropped (is_forgotten wait time e) refl (is_noted e.state) refl
  where
    new_for : Bool → Option Node
    new_for b = node_at wait time (cond (not b) (Some e) None)

    true_or : (a b : Bool) → a ≡ true → (a || b) ≡ true
    true_or true b h = refl
    true_or false b h = absurd (cc (h))

    or_other : (a b : Bool) → a ≡ false → (a || b) ≡ b
    or_other true b h = absurd (cc (h))
    or_other false b h = refl

    by_dropped : (b : Bool) → is_forgotten wait time e ≡ b → (c : Bool) → is_noted e.state ≡ c
        → Resets wait time (node_at wait time (Some e)) (new_for (is_dropped wait time e))
    by_dropped true late c noted = resets.kept (ap new_for (true_or (is_forgotten wait time e) (is_noted e.state) late)
        ∙ sym (when_true (is_forgotten wait time e) None _ late))
    by_dropped false early true noted = noted_node wait time e.inc e.since e.state e.details (node_at wait time (Some e))
        (new_for (is_dropped wait time e)) noted (when_false (is_forgotten wait time e) None _ early)
        (ap new_for (or_other (is_forgotten wait time e) (is_noted e.state) early ∙ noted))
    by_dropped false early false known = resets.kept (ap new_for (or_other (is_forgotten wait time e) (is_noted e.state) early ∙ known))

pub forgets : (view : ViewValue) (time : ℕ) (name : List ℕ) → IsAscending view.entries
    → Resets view.wait time (node_at view.wait time (entry_of view name))
    (node_at view.wait time (entry_of (view_without_dropped view time) name))
forgets view time name up = subst (λ o. Resets view.wait time (node_at view.wait time (entry_of view name)) (node_at view.wait time o))
    (sym (lookup-filter-values (eq_by_cmp_equiv nat_list_cmp_total) (λ e. not (is_dropped view.wait time e)) name view.entries
    (IsDistinct-from_sorted name_cmp (keys_of view.entries) up))) (filtered view.wait time (entry_of view name))
