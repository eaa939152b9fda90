-- A member is waited for as long as it is shown as suspect.
use Rattle.std.proofs.Common.{◌≡◌, ◌≢◌, ℕ, ◌≤◌, inl, inr, Bool, true, false, not, cond, ◌||◌, if◌then◌else◌, List, [], ◌∷◌, ◌++◌, nat_lt, Option, Some, None, IfSome, Result, Ok, Err, OnOk, OnErr, refl, sym, subst, ap, ◌∙◌, arith}
use Rattle.std.proofs.lemmas.Bool.Decides.{nat_tests}
use Rattle.std.specs.Ordering.{is_eq}
use Rattle.std.specs.Str.{bytes_eq}
use Rattle.swim_claim.specs.declared.claim.Claim.TheVariants.{Confirm, Leave}
use Rattle.std.proofs.Math.Bridge.{le_prop}
use Rattle.std.proofs.Math.Logic.{∥∥₁_elim, ∥∥₁_map}
use Rattle.std.proofs.lemmas.List.Sums.{sum_by-append, sum_by-cons}
use Rattle.std.proofs.lemmas.Map.Text.{is_eq-slice_cmp}
use Rattle.std.proofs.lemmas.Slice.Eq.{bytes_eq-Decides}
use Rattle.std.specs.List.{All, Any, count_by}
use Rattle.std.specs.Option.{option_map_or}
use Rattle.std.specs.Prelude.{⊤}
use Rattle.std.specs.declared.alloc.AllocError.{AllocError}
use Rattle.memberlist_view.specs.Heard.{about, accuser_of}
use Rattle.memberlist_view.specs.Member.{is_alive, is_heeded, is_known, is_noted, member_view_after, view_without_dropped}
use Rattle.memberlist_view.specs.Rules.{Change, are_sound_versions, change, change_of_entry, ended, ended_by, is_gone, name_cmp}
use Rattle.memberlist_view.specs.Shown.{changed, shown_next}
use Rattle.memberlist_view.specs.Told.{IsAscending, ViewValue, entry_of, view_after}
use Rattle.memberlist_view.specs.declared.entry.Entry.{Entry}
use Rattle.memberlist_view.specs.declared.entry.State.{State}
use Rattle.memberlist_view.specs.declared.entry.State.TheVariants as state
use Rattle.memberlist_view.specs.declared.event.Event.{Event}
use Rattle.memberlist_view.specs.declared.event.Event.TheVariants as event
use Rattle.memberlist_view.specs.declared.heard.Heard.{Heard}
use Rattle.memberlist_view.specs.declared.heard.Said.{Said}
use Rattle.memberlist_view.specs.declared.heard.Said.TheVariants.{Alive, Suspect, Dead, Left, Seen}
use Rattle.memberlist_view.proofs.Changing.{by_test}
use Rattle.memberlist_view.proofs.Viewing.{entry_of-after}
use Rattle.memberlist_member.specs.Beginning.{IsBegun}
use Rattle.memberlist_member.specs.Claims.{dead_by, packet_of}
use Rattle.memberlist_member.specs.Saying.{said_by, said_of}
use Rattle.memberlist_member.specs.Steps.{IsWaitedFor}
use Rattle.memberlist_member.specs.Suspects.{AreWatched, IsDueAt, IsDueIn, IsLater, is_suspect, is_suspected, shows_suspect}
use Rattle.memberlist_member.specs.declared.member.Member.{Member}
use Rattle.memberlist_member.specs.Viewing.{IsViewUntil}
use Rattle.memberlist_member.specs.declared.suspicions.Suspect as suspects
use Rattle.memberlist_member.proofs.Entries.{after_holds, alive_keeps, forgotten_holds}
use Rattle.memberlist_member.proofs.Members.{In, in_from_at, of_all}
use Rattle.memberlist_member.proofs.Showing.{about_death}
use Rattle.memberlist_member.proofs.Suspected.{one_of}

module _ (name : List ℕ) (xs : List suspects.Suspect) where
  abbrev IsAmong : Type 0
  IsAmong = 1 ≤ count_by (is_suspect name) xs

  abbrev Is : Entry → Type 0
  Is e = is_suspected e.state ≡ true → IsAmong

  some_is : (o : Option Entry) → (option_map_or (λ e. is_suspected e.state) o false ≡ true → IsAmong) → IfSome o Is
  some_is None watched = tt
  some_is (Some e) watched = watched

  is_some : (o : Option Entry) → IfSome o Is → option_map_or (λ e. is_suspected e.state) o false ≡ true → IsAmong
  is_some None was shown = absurd (cc (shown))
  is_some (Some e) was shown = was shown

  always : (c : Change) → IsAmong → IfSome c (λ p. Is p.0)
  always None among = tt
  always (Some p) among = λ _. among

  one_watched : (wait time : ℕ) (said : Said) → (is_alive said ≡ false → 1 ≤ count_by (is_suspect (about said)) xs) → name ≡ about said
      → (entry : Entry) → Is entry → IfSome (change_of_entry wait time entry said) (λ p. Is p.0)
  one_watched wait time (Alive who inc details joins) ready about_it entry was =
      by_test (λ p. Is p.0) (are_sound_versions details.vsn) _ None
      (λ _. alive_keeps wait time (λ s. is_suspected s ≡ true → IsAmong) (λ shown. absurd (cc (shown))) entry inc details joins was) (λ _. tt)
  one_watched wait time (Suspect who inc from) ready about_it entry was =
      always (change_of_entry wait time entry (Suspect who inc from)) (subst (λ n. 1 ≤ count_by (is_suspect n) xs) (sym about_it) (ready refl))
  one_watched wait time (Dead who inc from) ready about_it entry was =
      always (change_of_entry wait time entry (Dead who inc from)) (subst (λ n. 1 ≤ count_by (is_suspect n) xs) (sym about_it) (ready refl))
  one_watched wait time (Left who inc) ready about_it entry was =
      always (change_of_entry wait time entry (Left who inc)) (subst (λ n. 1 ≤ count_by (is_suspect n) xs) (sym about_it) (ready refl))
  one_watched wait time (Seen who place) ready about_it entry was =
      always (change_of_entry wait time entry (Seen who place)) (subst (λ n. 1 ≤ count_by (is_suspect n) xs) (sym about_it) (ready refl))

  one_after : (view : ViewValue) (h : Heard) → (is_alive h.said ≡ false → 1 ≤ count_by (is_suspect (about h.said)) xs)
      → (shows_suspect view name ≡ true → IsAmong) → shows_suspect (member_view_after view h) name ≡ true → IsAmong
  one_after view h ready watched = is_some (entry_of (member_view_after view h) name)
      (after_holds Is view name h (λ shown. absurd (cc (shown))) (some_is (entry_of view name) watched)
      (λ about_it entry is was. one_watched view.wait h.time h.said ready about_it entry was))

  one_without : (view : ViewValue) (time : ℕ) → IsAscending view.entries → (shows_suspect view name ≡ true → IsAmong)
      → shows_suspect (view_without_dropped view time) name ≡ true → IsAmong
  one_without view time up watched = is_some (entry_of (view_without_dropped view time) name)
      (forgotten_holds Is view time name up (some_is (entry_of view name) watched))

-- after something was heard, or refused
pub watched_after : (view new : ViewValue) (h : Heard) (xs : List suspects.Suspect) (result : Result (Option Event) AllocError)
    → (is_alive h.said ≡ false → 1 ≤ count_by (is_suspect (about h.said)) xs)
    → OnOk result (new ≡ member_view_after view h) → OnErr result (new ≡ view) → AreWatched view xs → AreWatched new xs
watched_after view new h xs (Ok event) ready step same watched =
    subst (λ v. AreWatched v xs) (sym step) (λ name. one_after name xs view h ready (watched name))
watched_after view new h xs (Err error) ready step same watched = subst (λ v. AreWatched v xs) (sym same) watched

-- after those gone for long were forgotten
pub watched_without : (view new : ViewValue) (time now : ℕ) (xs : List suspects.Suspect) → new ≡ view_without_dropped view time
    → IsViewUntil view now → AreWatched view xs → AreWatched new xs
watched_without view new time now xs forgets viewed watched =
    subst (λ v. AreWatched v xs) (sym forgets) (λ name shown.
    ∥∥₁_elim viewed le_prop (λ past. one_without name xs view time past.1.0.ascending (watched name) shown))

-- nothing is shown at first
pub none_watched : (view : ViewValue) (xs : List suspects.Suspect) → view.entries ≡ [] → AreWatched view xs
none_watched view xs none name shown =
    absurd (cc (subst (λ es. shows_suspect (record view { entries = es }) name ≡ true) none shown))

-- one more is waited for, if there was memory
pub watched_more : (view : ViewValue) (xs ys : List suspects.Suspect) (s : suspects.Suspect) (result : Result ⊤ AllocError)
    → OnOk result (ys ≡ xs ++ s ∷ []) → OnErr result (ys ≡ xs) → AreWatched view xs → AreWatched view ys
watched_more view xs ys s (Ok done) more same watched = subst (AreWatched view) (sym more) (λ name shown.
    omega (arith, watched name shown, sum_by-append (one_of name) xs (s ∷ [])))
watched_more view xs ys s (Err error) more same watched = subst (AreWatched view) (sym same) watched

-- one that is not shown as suspect is waited for no more
pub watched_others : (view : ViewValue) (xs ys : List suspects.Suspect) (gone : List ℕ) → shows_suspect view gone ≡ false
    → ((other : List ℕ) → other ≢ gone → count_by (is_suspect other) ys ≡ count_by (is_suspect other) xs)
    → AreWatched view xs → AreWatched view ys
watched_others view xs ys gone hidden others watched name shown =
    let other : name ≢ gone = λ same. absurd (cc (subst (λ n. shows_suspect view n ≡ true) same shown, hidden)) in
    omega (arith, watched name shown, others name other)

-- ---- a member is declared dead

-- the change leaves it suspected no more
abbrev Ends : Change → Type 0
Ends None = ⊥
Ends (Some p) = is_suspected p.0.state ≡ false

abbrev IsHidden : Option Entry → Type 0
IsHidden o = option_map_or (λ e. is_suspected e.state) o false ≡ false

ended_ends : (end : State) (what : Event) (time : ℕ) (entry : Entry) (inc : ℕ) (by : List (List ℕ)) → entry.state ≡ state.Suspect by
    → is_suspected end ≡ false → Ends (ended end what time entry inc)
ended_ends end what time entry inc by is hidden =
    subst (λ s. Ends (if is_gone s then None else Some (record entry { state = end; inc = inc; since = time }, what))) (sym is) hidden

not_below : (n : ℕ) → nat_lt n n ≡ false
not_below n = grind (arith, nat_tests)

one_ends : (wait time : ℕ) (entry : Entry) (by : List (List ℕ)) (name me : List ℕ) → entry.state ≡ state.Suspect by
    → accuser_of me ≡ Some me → Ends (change_of_entry wait time entry (said_of (packet_of (dead_by name entry.inc me) me) true))
one_ends wait time entry by name me is named = cases (bytes_eq name me) where
  declared : (b : Bool) → Ends (if b then ended state.Left event.Left time entry entry.inc else ended (state.Dead (Some me)) event.Dead time entry entry.inc)
  declared true = ended_ends state.Left event.Left time entry entry.inc by is refl
  declared false = ended_ends (state.Dead (Some me)) event.Dead time entry entry.inc by is refl

  cases : (b : Bool) → Ends (change_of_entry wait time entry (said_by me true (if b then Leave name entry.inc else Confirm name entry.inc)))
  cases true =
      subst (λ t. Ends (if t then None else ended state.Left event.Left time entry entry.inc)) (sym (not_below entry.inc))
      (ended_ends state.Left event.Left time entry entry.inc by is refl)
  cases false =
      subst (λ t. Ends (if t then None else ended_by name (accuser_of me) time entry entry.inc)) (sym (not_below entry.inc))
      (subst (λ o. Ends (ended_by name o time entry entry.inc)) (sym named) (declared (is_eq (name_cmp name me))))

changed_hides : (old : Option Entry) (c : Change) → Ends c → IsHidden (changed old c)
changed_hides None (Some p) ends = ends
changed_hides (Some e) (Some p) ends = ends
changed_hides None None ends = absurd ends
changed_hides (Some e) None ends = absurd ends

either : (b c : Bool) → c ≡ true → b || c ≡ true
either true c is = refl
either false c is = is

pub dead_is_hidden : (view : ViewValue) (name me : List ℕ) (time : ℕ) (entry : Entry) (by : List (List ℕ)) → entry_of view name ≡ Some entry
    → entry.state ≡ state.Suspect by → accuser_of me ≡ Some me
    → shows_suspect (member_view_after view (record { time = time; said = said_of (packet_of (dead_by name entry.inc me) me) true })) name ≡ false
dead_is_hidden view name me time entry by shown is named =
    subst (λ b. IsHidden (entry_of (if b then view_after view h else view) name)) (sym heeds)
    (subst IsHidden (sym (entry_of-after view h name)) next)
  where
    h : Heard
    h = record { time = time; said = said_of (packet_of (dead_by name entry.inc me) me) true }

    about_it : about h.said ≡ name
    about_it = about_death name entry.inc me

    knows : is_known (entry_of view (about h.said)) ≡ true
    knows = subst (λ n. is_known (entry_of view n) ≡ true) (sym about_it)
        (subst (λ o. is_known o ≡ true) (sym shown) (subst (λ s. not (is_noted s) ≡ true) (sym is) refl))

    heeds : is_heeded view h ≡ true
    heeds = either (is_alive h.said) (is_known (entry_of view (about h.said))) knows

    itself : is_eq (name_cmp name (about h.said)) ≡ true
    itself = subst (λ n. is_eq (name_cmp name n) ≡ true) (sym about_it) (is_eq-slice_cmp name name ∙ (bytes_eq-Decides name name).1 refl)

    next : IsHidden (shown_next view.wait name (entry_of view name) h)
    next = subst (λ b. IsHidden (if b then changed (entry_of view name) (change view.wait (entry_of view name) h) else entry_of view name)) (sym itself)
        (changed_hides (entry_of view name) (change view.wait (entry_of view name) h)
        (subst (λ o. Ends (change view.wait o h)) (sym shown) (one_ends view.wait time entry by name me is named)))

-- ---- the time of none is over

one_counted : {X : Type 0} (p : X → Bool) (xs : List X) → 1 ≤ count_by p xs → (x : X) × In x xs × (p x ≡ true)
one_counted p [] some = absurd (omega (arith, some))
one_counted {X} p (x ∷ xs) some = cases (one_counted p xs) (p x) refl where
  cases : (1 ≤ count_by p xs → (y : X) × In y xs × (p y ≡ true)) → (b : Bool) → p x ≡ b → (y : X) × In y (x ∷ xs) × (p y ≡ true)
  cases later true is = (x, inl refl, is)
  cases later false is =
      let here : ◌≡◌ {A = ℕ} (cond (p x) 1 0) 0 = ap (λ t. cond t 1 0) is in
      let (y, within, passes) = later (omega (arith, some, here, sum_by-cons (λ y. cond (p y) 1 0) x xs)) in
      (y, inr within, passes)

pub all_waited_for : (m : Member) → All (IsLater m.view m.time) m.suspicions.list.items → (name : List ℕ) (entry : Entry) (by : List (List ℕ))
    → entry_of m.view name ≡ Some entry → entry.state ≡ state.Suspect by → ∥ IsWaitedFor m.settings m.time entry by ∥₁
all_waited_for m later name entry by shown is = ∥∥₁_map m.begun (λ begun.
    let xs = m.suspicions.list.items in
    let hidden_not : shows_suspect m.view name ≡ true =
    subst (λ o. option_map_or (λ e. is_suspected e.state) o false ≡ true) (sym shown) (ap is_suspected is) in
    let (s, within, passes) = one_counted (is_suspect name) xs (m.watched name hidden_not) in
    let same : s.name ≡ name = (bytes_eq-Decides s.name name).0 (sym (is_eq-slice_cmp s.name name) ∙ passes) in
    let late = of_all (IsLater m.view m.time) xs later s within in
    record {
      span = s.suspicion;
      due = late.due;
      begun = of_all (λ x. IsBegun m.settings x.suspicion) xs begun s within;
      until = subst (λ x. IsDueIn x entry.since s.suspicion late.due) is
          (subst (λ o. IsDueAt o s.suspicion late.due) shown
          (subst (λ n. IsDueAt (entry_of m.view n) s.suspicion late.due) same late.is));
      later = late.later;
    })

-- one with the name is among them
pub any_counted : (name : List ℕ) (xs : List suspects.Suspect) (P : suspects.Suspect → Type 0) → Any (λ s. (s.name ≡ name) × P s) xs
    → 1 ≤ count_by (is_suspect name) xs
any_counted name xs P (k, s, less, is, (same, holds)) = counted xs (in_from_at xs k s s less is) where
  passes : is_suspect name s ≡ true
  passes = is_eq-slice_cmp s.name name ∙ (bytes_eq-Decides s.name name).1 same

  counted : (ys : List suspects.Suspect) → In s ys → 1 ≤ count_by (is_suspect name) ys
  counted [] none = absurd none
  counted (y ∷ ys) (inl here) =
      let one : one_of name y ≡ 1 = ap (λ t. cond t 1 0) (subst (λ x. is_suspect name x ≡ true) (sym here) passes) in
      omega (arith, one, sum_by-cons (one_of name) y ys)
  counted (y ∷ ys) (inr there) = omega (arith, counted ys there, sum_by-cons (one_of name) y ys)
