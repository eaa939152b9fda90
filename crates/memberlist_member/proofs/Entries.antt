-- What one more thing does to an entry, and in a view.
use Rattle.std.proofs.Common.{◌≡◌, ℕ, nat_lt, nat_le, Bool, true, false, not, if◌then◌else◌, List, Option, Some, None, IfSome, refl, sym, subst}
use Rattle.std.proofs.lemmas.Map.Entries.{option_filter}
use Rattle.std.proofs.lemmas.Map.Lookups.{exact_bytes}
use Rattle.std.specs.Ordering.{is_eq}
use Rattle.std.specs.declared.cmp.Ordering.{Ordering}
use Rattle.std.specs.declared.cmp.Ordering.TheVariants.{Less, Equal, Greater}
use Rattle.swim_claim.specs.Details.{DetailsValue}
use Rattle.memberlist_view.specs.Heard.{about}
use Rattle.memberlist_view.specs.Member.{is_dropped, is_heeded, member_view_after, view_without_dropped}
use Rattle.memberlist_view.specs.Rules.{Change, alive, alive_again, alive_at, blank, change, change_of_entry, entry_or_blank, has_left, is_forgotten, is_passed_rival, is_same_place, name_cmp, with_versions}
use Rattle.memberlist_view.specs.Shown.{changed, shown_next}
use Rattle.memberlist_view.specs.Told.{IsAscending, ViewValue, change_of, entry_of, view_after}
use Rattle.memberlist_view.specs.declared.entry.Entry.{Entry}
use Rattle.memberlist_view.specs.declared.entry.State.{State}
use Rattle.memberlist_view.specs.declared.entry.State.TheVariants as state
use Rattle.memberlist_view.specs.declared.heard.Heard.{Heard}
use Rattle.memberlist_view.proofs.Changing.{by_test}
use Rattle.memberlist_view.proofs.Forgetting.{IsAscending-filter, entry_at-filter}
use Rattle.memberlist_view.proofs.Viewing.{IsAscending-with, entry_of-after}

-- ---- an Alive

-- it leaves the state as it is, or the member is alive
module _ (wait time : ℕ) (Is : State → Type 0) (alive_is : Is state.Alive) where
  again_keeps : (s : State) (entry : Entry) (inc : ℕ) (details : DetailsValue) (joins : Bool)
      → IfSome (alive_again s time entry inc details joins) (λ p. Is p.0.state)
  again_keeps state.Noted entry inc details joins = alive_is
  again_keeps state.Seen entry inc details joins = alive_is
  again_keeps state.Alive entry inc details joins = alive_is
  again_keeps (state.Suspect by) entry inc details joins = alive_is
  again_keeps (state.Dead by) entry inc details joins = alive_is
  again_keeps state.Left entry inc details joins = alive_is

  at_keeps : (known : Option DetailsValue) (entry : Entry) (inc : ℕ) (details : DetailsValue) (joins : Bool) → Is entry.state
      → IfSome (alive_at known time entry inc details joins) (λ p. Is p.0.state)
  at_keeps None entry inc details joins was = by_test (λ p. Is p.0.state) (nat_le inc entry.inc) _ _ (λ _. was)
      (λ _. again_keeps entry.state entry inc (with_versions entry.details details) joins)
  at_keeps (Some old) entry inc details joins was = by_test (λ p. Is p.0.state) (is_same_place old details) _ _
      (λ _. by_test (λ p. Is p.0.state) (nat_le inc entry.inc) None _ (λ _. tt)
      (λ _. again_keeps entry.state entry inc (with_versions entry.details details) joins))
      (λ _. by_test (λ p. Is p.0.state) (has_left entry.state) _ _ (λ _. alive_is)
      (λ _. by_test (λ p. Is p.0.state) (is_passed_rival entry.rivals details) None _ (λ _. tt) (λ _. was)))

  pub alive_keeps : (entry : Entry) (inc : ℕ) (details : DetailsValue) (joins : Bool) → Is entry.state
      → IfSome (alive wait time entry inc details joins) (λ p. Is p.0.state)
  alive_keeps entry inc details joins was = by_test (λ p. Is p.0.state) (is_forgotten wait time entry) _ _
      (λ _. by_test (λ p. Is p.0.state) (nat_lt 0 inc) _ None (λ _. alive_is) (λ _. tt))
      (λ _. at_keeps entry.details entry inc details joins was)

-- ---- in a view

module _ (Is : Entry → Type 0) where
  changed_holds : (old : Option Entry) (what : Change) → IfSome old Is → IfSome what (λ p. Is p.0) → IfSome (changed old what) Is
  changed_holds None None was is = tt
  changed_holds None (Some p) was is = is
  changed_holds (Some e) None was is = was
  changed_holds (Some e) (Some p) was is = is

  next_holds : (wait : ℕ) (name : List ℕ) (old : Option Entry) (heard : Heard) → IfSome old Is
      → (name ≡ about heard.said → IfSome (change wait old heard) (λ p. Is p.0)) → IfSome (shown_next wait name old heard) Is
  next_holds wait name old heard was is = by_answer (name_cmp name (about heard.said)) refl where
    by_answer : (o : Ordering) → name_cmp name (about heard.said) ≡ o
        → IfSome (if is_eq o then changed old (change wait old heard) else old) Is
    by_answer Less e = was
    by_answer Greater e = was
    by_answer Equal e = changed_holds old (change wait old heard) was (is (exact_bytes name (about heard.said) e))

  blank_or : (time : ℕ) (old : Option Entry) → Is (blank time) → IfSome old Is → Is (entry_or_blank time old)
  blank_or time None none was = none
  blank_or time (Some entry) none was = was

  -- what holds of its entry holds of that after one more thing, if it does by the rule
  pub after_holds : (view : ViewValue) (name : List ℕ) (heard : Heard) → Is (blank heard.time) → IfSome (entry_of view name) Is
      → (name ≡ about heard.said → (entry : Entry) → entry ≡ entry_or_blank heard.time (entry_of view name) → Is entry
      → IfSome (change_of_entry view.wait heard.time entry heard.said) (λ p. Is p.0))
      → IfSome (entry_of (member_view_after view heard) name) Is
  after_holds view name heard none was rule = cases (is_heeded view heard) where
    old : Option Entry
    old = entry_of view name

    next : IfSome (shown_next view.wait name old heard) Is
    next = next_holds view.wait name old heard was
        (λ about_it. rule about_it (entry_or_blank heard.time old) refl (blank_or heard.time old none was))

    cases : (b : Bool) → IfSome (entry_of (if b then view_after view heard else view) name) Is
    cases true = subst (λ o. IfSome o Is) (sym (entry_of-after view heard name)) next
    cases false = was

  kept_holds : (p : Entry → Bool) (old : Option Entry) → IfSome old Is → IfSome (option_filter p old) Is
  kept_holds p None was = tt
  kept_holds p (Some entry) was = cases (p entry) where
    cases : (b : Bool) → IfSome (if b then Some entry else None) Is
    cases true = was
    cases false = tt

  pub forgotten_holds : (view : ViewValue) (time : ℕ) (name : List ℕ) → IsAscending view.entries → IfSome (entry_of view name) Is
      → IfSome (entry_of (view_without_dropped view time) name) Is
  forgotten_holds view time name up was =
      let stays : Entry → Bool = λ e. not (is_dropped view.wait time e) in
      subst (λ o. IfSome o Is) (sym (entry_at-filter stays view.entries name up)) (kept_holds stays (entry_of view name) was)

pub ascending_after : (view : ViewValue) (heard : Heard) → IsAscending view.entries → IsAscending (member_view_after view heard).entries
ascending_after view heard up = cases (is_heeded view heard) where
  cases : (b : Bool) → IsAscending (if b then view_after view heard else view).entries
  cases true = IsAscending-with view.entries (about heard.said) (change_of view heard) up
  cases false = up

pub ascending_without : (view : ViewValue) (time : ℕ) → IsAscending view.entries → IsAscending (view_without_dropped view time).entries
ascending_without view time up = IsAscending-filter (λ e. not (is_dropped view.wait time e.1)) view.entries up
