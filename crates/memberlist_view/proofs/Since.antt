-- The time of an entry is that of the last change of its state.
use Rattle.std.proofs.Common.{◌≡◌, ℕ, Bool, true, false, nat_lt, nat_le, Option, Some, None, IfSome, List, if◌then◌else◌, refl, ap, ◌∙◌}
use Rattle.std.specs.Ordering.{is_eq}
use Rattle.swim_claim.specs.Details.{DetailsValue}
use Rattle.memberlist_view.specs.declared.entry.Entry.{Entry}
use Rattle.memberlist_view.specs.declared.entry.State.{State}
use Rattle.memberlist_view.specs.declared.entry.State.TheVariants as state
use Rattle.memberlist_view.specs.declared.event.Event.{Event}
use Rattle.memberlist_view.specs.declared.event.Event.TheVariants as event
use Rattle.memberlist_view.specs.declared.heard.Heard.{Heard}
use Rattle.memberlist_view.specs.declared.heard.Said.{Said}
use Rattle.memberlist_view.specs.declared.heard.Said.TheVariants.{Alive, Suspect, Dead, Left, Seen}
use Rattle.memberlist_view.specs.Heard.{about}
use Rattle.memberlist_view.specs.Rules.{Change, name_cmp, is_passed_over, is_passed_rival, are_sound_versions}
use Rattle.memberlist_view.specs.Rules.{is_same_place, with_versions, is_gone, has_left, is_forgotten, alive_again}
use Rattle.memberlist_view.specs.Rules.{alive_at, alive, accused, suspected, ended, ended_in_record, ended_by, blank}
use Rattle.memberlist_view.specs.Rules.{lacks_place, seen_in, change_of_entry, change_by, change}
use Rattle.memberlist_view.specs.Shown.{changed, shown_next}
use Rattle.memberlist_view.specs.Lasting.{is_same_kind, IsSince, IsSince as since}
use Rattle.memberlist_view.proofs.Changing.{by_test, first_true}

same_kind_itself : (s : State) → is_same_kind s s ≡ true
same_kind_itself state.Noted = refl
same_kind_itself state.Seen = refl
same_kind_itself state.Alive = refl
same_kind_itself (state.Suspect by) = refl
same_kind_itself (state.Dead by) = refl
same_kind_itself state.Left = refl

gone_not_alive : (s : State) → is_gone s ≡ true → is_same_kind s state.Alive ≡ false
gone_not_alive state.Noted h = absurd (cc (h))
gone_not_alive state.Seen h = absurd (cc (h))
gone_not_alive state.Alive h = absurd (cc (h))
gone_not_alive (state.Suspect by) h = absurd (cc (h))
gone_not_alive (state.Dead by) h = refl
gone_not_alive state.Left h = refl

left_not_alive : (s : State) → has_left s ≡ true → is_same_kind s state.Alive ≡ false
left_not_alive state.Noted h = absurd (cc (h))
left_not_alive state.Seen h = absurd (cc (h))
left_not_alive state.Alive h = absurd (cc (h))
left_not_alive (state.Suspect by) h = absurd (cc (h))
left_not_alive (state.Dead by) h = absurd (cc (h))
left_not_alive state.Left h = refl

-- a state that is not gone becomes dead, or left
other_when_dead : (s : State) (from : Option (List ℕ)) → is_gone s ≡ false → is_same_kind s (state.Dead from) ≡ false
other_when_dead state.Noted from h = refl
other_when_dead state.Seen from h = refl
other_when_dead state.Alive from h = refl
other_when_dead (state.Suspect by) from h = refl
other_when_dead (state.Dead by) from h = absurd (cc (h))
other_when_dead state.Left from h = absurd (cc (h))

other_when_left : (s : State) → is_gone s ≡ false → is_same_kind s state.Left ≡ false
other_when_left state.Noted h = refl
other_when_left state.Seen h = refl
other_when_left state.Alive h = refl
other_when_left (state.Suspect by) h = refl
other_when_left (state.Dead by) h = absurd (cc (h))
other_when_left state.Left h = absurd (cc (h))

-- ---- one thing heard

module _ (time : ℕ) (entry : Entry) where
  abbrev pub Is : Entry × Event → Type 0
  Is p = IsSince (Some entry) time p.0

  -- if the state is as it was, whatever the rest is
  kept_as : (s : State) (e : Entry) → entry.state ≡ s → is_same_kind s e.state ≡ true → e.since ≡ entry.since → IsSince (Some entry) time e
  kept_as s e here same when = since.kept entry refl (ap (λ t. is_same_kind t e.state) here ∙ same) when

  began_as : (s : State) (e : Entry) → entry.state ≡ s → is_same_kind s e.state ≡ false → e.since ≡ time → IsSince (Some entry) time e
  began_as s e here other when = since.began (ap (λ t. is_same_kind t e.state) here ∙ other) when

  module _ (inc : ℕ) where
    again_since : (details : DetailsValue) (joins : Bool) (s : State) → entry.state ≡ s
        → IfSome (alive_again s time entry inc details joins) Is
    again_since details joins state.Noted e = began_as state.Noted _ e refl refl
    again_since details joins state.Seen e = kept_as state.Seen _ e refl refl
    again_since details joins state.Alive e = kept_as state.Alive _ e refl refl
    again_since details joins (state.Suspect by) e = began_as (state.Suspect by) _ e refl refl
    again_since details joins (state.Dead by) e = began_as (state.Dead by) _ e refl refl
    again_since details joins state.Left e = began_as state.Left _ e refl refl

    at_since : (o : Option DetailsValue) (details : DetailsValue) (joins : Bool) → IfSome (alive_at o time entry inc details joins) Is
    at_since None details joins = by_test Is (nat_le inc entry.inc) _ _
        (λ _. kept_as entry.state _ refl (same_kind_itself entry.state) refl)
        (λ _. again_since (with_versions entry.details details) joins entry.state refl)
    at_since (Some old) details joins = by_test Is (is_same_place old details) _ _
        (λ _. by_test Is (nat_le inc entry.inc) None _ (λ _. tt)
        (λ _. again_since (with_versions entry.details details) joins entry.state refl))
        (λ _. by_test Is (has_left entry.state) _ _
        (λ left. began_as entry.state _ refl (left_not_alive entry.state left) refl)
        (λ _. by_test Is (is_passed_rival entry.rivals details) None _ (λ _. tt)
        (λ _. kept_as entry.state _ refl (same_kind_itself entry.state) refl)))

    alive_is_since : (wait : ℕ) (details : DetailsValue) (joins : Bool) → IfSome (alive wait time entry inc details joins) Is
    alive_is_since wait details joins = by_test Is (is_forgotten wait time entry) _ _
        (λ late. by_test Is (nat_lt 0 inc) _ None
        (λ _. began_as entry.state _ refl (gone_not_alive entry.state
        (first_true (is_gone entry.state) _ late)) refl) (λ _. tt))
        (λ _. at_since entry.details details joins)

    accused_since : (by : List (List ℕ)) (from : Option (List ℕ)) → entry.state ≡ state.Suspect by → IfSome (accused by entry from) Is
    accused_since by None e = tt
    accused_since by (Some f) e = by_test Is (is_passed_over f by) None _ (λ _. tt) (λ _. kept_as (state.Suspect by) _ e refl refl)

    suspected_since : (from : Option (List ℕ)) (s : State) → entry.state ≡ s → IfSome (suspected s time entry inc from) Is
    suspected_since from state.Noted e = began_as state.Noted _ e refl refl
    suspected_since from state.Seen e = began_as state.Seen _ e refl refl
    suspected_since from state.Alive e = began_as state.Alive _ e refl refl
    suspected_since from (state.Suspect by) e = accused_since by from e
    suspected_since from (state.Dead by) e = tt
    suspected_since from state.Left e = tt

    dead_since : (from : Option (List ℕ)) → IfSome (ended (state.Dead from) event.Dead time entry inc) Is
    dead_since from = by_test Is (is_gone entry.state) None _ (λ _. tt)
        (λ here. began_as entry.state _ refl (other_when_dead entry.state from here) refl)

    left_since : IfSome (ended state.Left event.Left time entry inc) Is
    left_since = by_test Is (is_gone entry.state) None _ (λ _. tt)
        (λ here. began_as entry.state _ refl (other_when_left entry.state here) refl)

    in_record_since : (o : Option DetailsValue) → IfSome (ended_in_record o time entry inc) Is
    in_record_since None = dead_since None
    in_record_since (Some d) = suspected_since None entry.state refl

    ended_by_since : (name : List ℕ) (from : Option (List ℕ)) → IfSome (ended_by name from time entry inc) Is
    ended_by_since name None = in_record_since entry.details
    ended_by_since name (Some from) = by_test Is (is_eq (name_cmp name from)) _ _ (λ _. left_since) (λ _. dead_since (Some from))

  seen_in_since : (s : State) (place : DetailsValue) → entry.state ≡ s → IsSince (Some entry) time (seen_in s time entry place)
  seen_in_since state.Noted place e = began_as state.Noted _ e refl refl
  seen_in_since state.Seen place e = kept_as entry.state _ refl (same_kind_itself entry.state) refl
  seen_in_since state.Alive place e = kept_as entry.state _ refl (same_kind_itself entry.state) refl
  seen_in_since (state.Suspect by) place e = kept_as entry.state _ refl (same_kind_itself entry.state) refl
  seen_in_since (state.Dead by) place e = kept_as entry.state _ refl (same_kind_itself entry.state) refl
  seen_in_since state.Left place e = kept_as entry.state _ refl (same_kind_itself entry.state) refl

of_entry_since : (wait time : ℕ) (entry : Entry) (said : Said)
    → IfSome (change_of_entry wait time entry said) (λ p. IsSince (Some entry) time p.0)
of_entry_since wait time entry (Alive name inc details joins) =
    by_test (Is time entry) (are_sound_versions details.vsn) _ None (λ _. alive_is_since time entry inc wait details joins) (λ _. tt)
of_entry_since wait time entry (Suspect name inc from) =
    by_test (Is time entry) (nat_lt inc entry.inc) None _ (λ _. tt) (λ _. suspected_since time entry inc from entry.state refl)
of_entry_since wait time entry (Dead name inc from) =
    by_test (Is time entry) (nat_lt inc entry.inc) None _ (λ _. tt) (λ _. ended_by_since time entry inc name from)
of_entry_since wait time entry (Left name inc) =
    by_test (Is time entry) (nat_lt inc entry.inc) None _ (λ _. tt) (λ _. left_since time entry inc)
of_entry_since wait time entry (Seen name place) =
    by_test (Is time entry) (lacks_place entry) _ None (λ _. seen_in_since time entry entry.state place refl) (λ _. tt)

-- since the blank entry means since now
since_blank : (time : ℕ) (e : Entry) → IsSince (Some (blank time)) time e → IsSince None time e
since_blank time e (since.kept before is same when) =
    since.began tt (when ∙ ap (λ (f : Entry). f.since) (unwrapped before is))
  where
    unwrapped : (b : Entry) → Some (blank time) ≡ Some b → b ≡ blank time
    unwrapped b h = cc (h)
since_blank time e (since.began other when) = since.began tt when

each_since : (time : ℕ) (what : Change) → IfSome what (λ p. IsSince (Some (blank time)) time p.0) → IfSome what (λ p. IsSince None time p.0)
each_since time None h = tt
each_since time (Some p) h = since_blank time p.0 h

change_since : (wait time : ℕ) (old : Option Entry) (said : Said) → IfSome (change_by wait time old said) (λ p. IsSince old time p.0)
change_since wait time None said = each_since time _ (of_entry_since wait time (blank time) said)
change_since wait time (Some entry) said = of_entry_since wait time entry said

-- ---- what is shown

as_it_was : (time : ℕ) (old : Option Entry) → IfSome old (IsSince old time)
as_it_was time None = tt
as_it_was time (Some entry) = since.kept entry refl (same_kind_itself entry.state) refl

changed_since : (time : ℕ) (old : Option Entry) (what : Change) → IfSome what (λ p. IsSince old time p.0)
    → IfSome (changed old what) (IsSince old time)
changed_since time old None h = as_it_was time old
changed_since time old (Some p) h = h

pub next_since : (wait : ℕ) (name : List ℕ) (old : Option Entry) (heard : Heard)
    → IfSome (shown_next wait name old heard) (IsSince old heard.time)
next_since wait name old heard = by_bool (is_eq (name_cmp name (about heard.said)))
  where
    by_bool : (b : Bool) → IfSome (if b then changed old (change wait old heard) else old) (IsSince old heard.time)
    by_bool true = changed_since heard.time old (change wait old heard) (change_since wait heard.time old heard.said)
    by_bool false = as_it_was heard.time old
