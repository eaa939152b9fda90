-- What is shown of a member from step to step.
use Rattle.std.proofs.Common.{◌≡◌, ℕ, ◌+◌, ◌*◌, ◌-◌, ◌/◌, ◌^◌, ◌<◌, ◌≤◌, max, min, nat_lt, nat_le, Bool, true, false, List, length, Option, Some, None, IfSome, refl, sym, subst, ap, ◌∙◌, arith}
use Rattle.std.proofs.Math.Bool.{Bool-set}
use Rattle.std.proofs.Math.Logic.{∥∥₁_elim, ∥∥₁_map, ∥∥₁_prop}
use Rattle.std.proofs.lemmas.Nat.{le-div}
use Rattle.std.proofs.Math.Nat.{mul-le-mul_left, mul-le-mul_right, mul_right_comm}
use Rattle.std.specs.List.{All}
use Rattle.swim_claim.specs.Details.{DetailsValue}
use Rattle.memberlist_view.specs.Heard.{about}
use Rattle.memberlist_view.specs.Rules.{alive, alive_again, alive_at, are_sound_versions, blank, change_of_entry, entry_or_blank, has_left, is_forgotten, is_gone, is_passed_over, is_passed_rival, is_same_place, lacks_place, seen_in, suspected, with_versions}
use Rattle.memberlist_view.specs.Told.{IsAscending, ViewValue, entry_of}
use Rattle.memberlist_view.specs.declared.entry.Entry.{Entry}
use Rattle.memberlist_view.specs.declared.entry.State.{State}
use Rattle.memberlist_view.specs.declared.entry.State.TheVariants as state
use Rattle.memberlist_view.specs.declared.event.Event.{Event}
use Rattle.memberlist_view.specs.declared.heard.Heard.{Heard}
use Rattle.memberlist_view.specs.declared.heard.Said.{Said}
use Rattle.memberlist_view.specs.declared.heard.Said.TheVariants.{Alive, Suspect, Dead, Left, Seen}
use Rattle.memberlist_view.proofs.Changing.{by_test}
use Rattle.memberlist_member.specs.Beginning.{IsBegun}
use Rattle.memberlist_member.specs.Histories.{IsClear, IsHere, IsNoEnd, IsStep, IsWell, Lives, Spares, is_accusation, is_accused, is_end, shortest}
use Rattle.memberlist_member.specs.Histories.Lives.{begins, goes_on}
use Rattle.memberlist_member.specs.Owns.{own_alive}
use Rattle.memberlist_member.specs.Showing.{HasGround, Reaches, Went}
use Rattle.memberlist_member.specs.Saying.{said_of}
use Rattle.memberlist_member.specs.Showing.HasGround.{is_told, is_over}
use Rattle.memberlist_member.specs.Showing.Reaches.{here, hears, tells, refutes, forgets}
use Rattle.memberlist_member.specs.Steps.{IsToldBy, ShowsBy}
use Rattle.memberlist_member.specs.Suspicions.{IsDue, Span}
use Rattle.memberlist_member.specs.declared.config.Config.{Config}
use Rattle.memberlist_member.specs.declared.input.Input.{Input}
use Rattle.memberlist_member.specs.declared.input.Input.TheVariants as input
use Rattle.memberlist_member.specs.declared.member.Member.{Member}
use Rattle.memberlist_member.specs.declared.own.Own.{Own}
use Rattle.memberlist_member.proofs.Entries.{after_holds, alive_keeps, ascending_after, ascending_without, forgotten_holds}
use Rattle.memberlist_member.proofs.Members.{in_from_contains, of_all}
use Rattle.memberlist_member.proofs.Showing.{about_death}
use Rattle.memberlist_member.proofs.Suspecting.{between}

-- ---- what one more thing does to an entry

-- what is said of it is no accusation, and it was none
module _ (wait time : ℕ) where
  abbrev IsFree : Entry → Type 0
  IsFree e = is_accused e.state ≡ false

  seen_free : (s : State) (entry : Entry) (place : DetailsValue) → entry.state ≡ s → is_accused s ≡ false → IsFree (seen_in s time entry place)
  seen_free state.Noted entry place is free = refl
  seen_free state.Seen entry place is free = ap is_accused is ∙ free
  seen_free state.Alive entry place is free = ap is_accused is ∙ free
  seen_free (state.Suspect by) entry place is free = ap is_accused is ∙ free
  seen_free (state.Dead by) entry place is free = ap is_accused is ∙ free
  seen_free state.Left entry place is free = ap is_accused is ∙ free

  one_free : (entry : Entry) (said : Said) → is_accusation said ≡ false → is_accused entry.state ≡ false
      → IfSome (change_of_entry wait time entry said) (λ p. is_accused p.0.state ≡ false)
  one_free entry (Alive name inc details joins) spares free = by_test (λ p. IsFree p.0) (are_sound_versions details.vsn) _ None
      (λ _. alive_keeps wait time (λ s. is_accused s ≡ false) refl entry inc details joins free) (λ _. tt)
  one_free entry (Suspect name inc from) spares free = absurd (cc (spares))
  one_free entry (Dead name inc from) spares free = absurd (cc (spares))
  one_free entry (Left name inc) spares free = by_test (λ p. IsFree p.0) (nat_lt inc entry.inc) None _ (λ _. tt)
      (λ _. by_test (λ p. IsFree p.0) (is_gone entry.state) None _ (λ _. tt) (λ _. refl))
  one_free entry (Seen name place) spares free = by_test (λ p. IsFree p.0) (lacks_place entry) _ None
      (λ _. seen_free entry.state entry place refl free) (λ _. tt)

-- nor is it an end; a suspicion began at this time or later
abbrev IsSpared : ℕ → Entry → Type 0
IsSpared from e = (is_gone e.state ≡ false) × (is_accused e.state ≡ true → from ≤ e.since)

module _ (wait time from : ℕ) (late : from ≤ time) where
  abbrev Still : Entry → Type 0
  Still = IsSpared from

  again_still : (s : State) (entry : Entry) (inc : ℕ) (details : DetailsValue) (joins : Bool)
      → IfSome (alive_again s time entry inc details joins) (λ p. Still p.0)
  again_still state.Noted entry inc details joins = (refl, λ accused. absurd (cc (accused)))
  again_still state.Seen entry inc details joins = (refl, λ accused. absurd (cc (accused)))
  again_still state.Alive entry inc details joins = (refl, λ accused. absurd (cc (accused)))
  again_still (state.Suspect by) entry inc details joins = (refl, λ accused. absurd (cc (accused)))
  again_still (state.Dead by) entry inc details joins = (refl, λ accused. absurd (cc (accused)))
  again_still state.Left entry inc details joins = (refl, λ accused. absurd (cc (accused)))

  at_still : (known : Option DetailsValue) (entry : Entry) (inc : ℕ) (details : DetailsValue) (joins : Bool) → Still entry
      → IfSome (alive_at known time entry inc details joins) (λ p. Still p.0)
  at_still None entry inc details joins still = by_test (λ p. Still p.0) (nat_le inc entry.inc) _ _ (λ _. still)
      (λ _. again_still entry.state entry inc (with_versions entry.details details) joins)
  at_still (Some old) entry inc details joins still = by_test (λ p. Still p.0) (is_same_place old details) _ _
      (λ _. by_test (λ p. Still p.0) (nat_le inc entry.inc) None _ (λ _. tt)
      (λ _. again_still entry.state entry inc (with_versions entry.details details) joins))
      (λ _. by_test (λ p. Still p.0) (has_left entry.state) _ _ (λ _. (refl, λ accused. absurd (cc (accused))))
      (λ _. by_test (λ p. Still p.0) (is_passed_rival entry.rivals details) None _ (λ _. tt) (λ _. still)))

  alive_still : (entry : Entry) (inc : ℕ) (details : DetailsValue) (joins : Bool) → Still entry
      → IfSome (alive wait time entry inc details joins) (λ p. Still p.0)
  alive_still entry inc details joins still = by_test (λ p. Still p.0) (is_forgotten wait time entry) _ _
      (λ _. by_test (λ p. Still p.0) (nat_lt 0 inc) _ None (λ _. (refl, λ accused. absurd (cc (accused)))) (λ _. tt))
      (λ _. at_still entry.details entry inc details joins still)

  suspected_still : (s : State) (entry : Entry) (inc : ℕ) (by : Option (List ℕ)) → entry.state ≡ s → Still entry
      → IfSome (suspected s time entry inc by) (λ p. Still p.0)
  suspected_still state.Noted entry inc by is still = (refl, λ _. late)
  suspected_still state.Seen entry inc by is still = (refl, λ _. late)
  suspected_still state.Alive entry inc by is still = (refl, λ _. late)
  suspected_still (state.Suspect others) entry inc None is still = tt
  suspected_still (state.Suspect others) entry inc (Some one) is still = by_test {A = Entry × Event} (λ p. Still p.0) (is_passed_over one others) None _ (λ _. tt)
      (λ _. (refl, λ _. still.1 (ap is_accused is)))
  suspected_still (state.Dead by) entry inc from is still = tt
  suspected_still state.Left entry inc by is still = tt

  seen_still : (s : State) (entry : Entry) (place : DetailsValue) → entry.state ≡ s → Still entry → Still (seen_in s time entry place)
  seen_still state.Noted entry place is still = (refl, λ accused. absurd (cc (accused)))
  seen_still state.Seen entry place is still = still
  seen_still state.Alive entry place is still = still
  seen_still (state.Suspect by) entry place is still = still
  seen_still (state.Dead by) entry place is still = still
  seen_still state.Left entry place is still = still

  one_still : (entry : Entry) (said : Said) → is_end said ≡ false → Still entry
      → IfSome (change_of_entry wait time entry said) (λ p. Still p.0)
  one_still entry (Alive name inc details joins) spares still = by_test (λ p. Still p.0) (are_sound_versions details.vsn) _ None
      (λ _. alive_still entry inc details joins still) (λ _. tt)
  one_still entry (Suspect name inc from) spares still = by_test (λ p. Still p.0) (nat_lt inc entry.inc) None _ (λ _. tt)
      (λ _. suspected_still entry.state entry inc from refl still)
  one_still entry (Dead name inc from) spares still = absurd (cc (spares))
  one_still entry (Left name inc) spares still = absurd (cc (spares))
  one_still entry (Seen name place) spares still = by_test (λ p. Still p.0) (lacks_place entry) _ None
      (λ _. seen_still entry.state entry place refl still) (λ _. tt)

-- ---- from view to view

-- what holds of a name's entry, and of what is heard by the rule
module _ (Is : Entry → Type 0) (config : Config) (me : List ℕ) (now : ℕ) (told : List Said) (name : List ℕ) (none : Is (blank now))
    (rule : (view : ViewValue) (said : Said) → HasGround config me now told view said → name ≡ about said → (entry : Entry)
    → entry ≡ entry_or_blank now (entry_of view name) → Is entry → IfSome (change_of_entry view.wait now entry said) (λ p. Is p.0))
    (alive_rule : (wait inc : ℕ) (who : List ℕ) (details : DetailsValue) (entry : Entry) → Is entry
    → IfSome (change_of_entry wait now entry (Alive who inc details true)) (λ p. Is p.0)) where
  abbrev Holds : ViewValue → Type 0
  Holds view = IsAscending view.entries × IfSome (entry_of view name) Is

  holds_on : (first : ViewValue) (word : Own) {view : ViewValue} {own : Own} → Reaches config me now told first word view own
      → Holds first → Holds view
  holds_on first word here was = was
  holds_on first word (hears {view} {own} said ground before) was =
      let (up, shown) = holds_on first word before was in (
        ascending_after view (record { time = now; said = said }) up,
        after_holds Is view name (record { time = now; said = said }) none shown (rule view said ground),
      )
  holds_on first word (tells {view} {own} before) was =
      let (up, shown) = holds_on first word before was in
      let heard : Heard = record { time = now; said = said_of (own_alive own) true } in (
        ascending_after view heard up,
        after_holds Is view name heard none shown (λ _ entry _. alive_rule view.wait own.inc own.name own.details entry),
      )
  holds_on first word (refutes said ground itself stays rises before) was = holds_on first word before was
  holds_on first word (forgets {view} {own} before) was =
      let (up, shown) = holds_on first word before was in
      (ascending_without view now up, forgotten_holds Is view now name up shown)

-- ---- in a step

-- an input leads from view to view
goes_in : (what : Input) (told : List Said) (old new : Member) → ShowsBy what told old new
    → (word : Own) × (own : Own) × Went told word own old new
goes_in input.Tick told old new went = (_, _, went)
goes_in (input.Datagram from bytes) told old new went = (_, _, went)
goes_in (input.Accepted conn) told old new went = (_, _, went)
goes_in (input.Connected conn) told old new went = (_, _, went)
goes_in (input.Received conn bytes) told old new went = (_, _, went)
goes_in (input.Closed conn) told old new went = (_, _, went)
goes_in (input.Join seeds) told old new went = (_, _, went)
goes_in input.Leave told old new went = (_, _, went.0)
goes_in (input.Update meta) told old new went = (_, _, went.0)
goes_in (input.Say bytes) told old new went = (_, _, went)
goes_in (input.State bytes) told old new went = (_, _, went)

-- the entry that is shown
the_entry : (old : Option Entry) (time : ℕ) (one other : Entry) → old ≡ Some other → one ≡ entry_or_blank time old → one ≡ other
the_entry old time one other shown is = is ∙ ap (entry_or_blank time) shown

flag_prop : (flag : State → Bool) (o : Option Entry) → IsProp (IfSome o (λ e. flag e.state ≡ false))
flag_prop flag None = λ x y. refl
flag_prop flag (Some e) = Bool-set _ _

-- of a member that nobody accuses
module _ (name : List ℕ) where
  free_step : (now : ℕ) (what : Input) (old new : Member) → IsStep now what old new
      → ((said : Said) → IsToldBy what new.time old said → Spares name said)
      → IsAscending old.view.entries → IsClear name old.view → IsClear name new.view
  free_step now what old new step such up clear =
      let (told, each, shows) = step.shows in
      let (word, own, went) = goes_in what told old new shows in
      (holds_on Is new.settings new.own.name new.time told name refl
      (λ view said ground about_it entry is free. rule told each view said ground about_it entry is free)
      (λ wait inc who details entry free. one_free wait new.time entry (Alive who inc details true) refl free)
      old.view word went (up, clear)).1
    where
      Is : Entry → Type 0
      Is e = is_accused e.state ≡ false

      rule : (told : List Said) → All (IsToldBy what new.time old) told → (view : ViewValue) (said : Said)
          → HasGround new.settings new.own.name new.time told view said → name ≡ about said → (entry : Entry)
          → entry ≡ entry_or_blank new.time (entry_of view name) → Is entry
          → IfSome (change_of_entry view.wait new.time entry said) (λ p. Is p.0)
      rule told each view said (is_told among) about_it entry is free =
          one_free view.wait new.time entry said
          (such said (of_all (IsToldBy what new.time old) told each said (in_from_contains told said among)) (sym about_it)) free
      rule told each view said (is_over dead inc long) about_it entry is free =
          let same : name ≡ dead = about_it ∙ about_death dead inc new.own.name in
          let there : entry ≡ long.entry = the_entry (entry_of view name) new.time entry long.entry
          (ap (entry_of view) same ∙ long.shown) is in
          absurd (cc (ap (λ (e : Entry). is_accused e.state) there, ap is_accused long.suspect, free))

  pub free_on : {first last : Member} → Lives (Spares name) first last → IsClear name first.view → IsClear name last.view
  free_on begins clear = clear
  free_on (goes_on {old} {new} now what step such before) clear =
      let was = free_on before clear in
      ∥∥₁_elim old.viewed (flag_prop is_accused (entry_of new.view name)) (λ past. free_step now what old new step such past.1.0.ascending was)

-- of a member of which nobody says that it is gone

at_least : (mult interval thousandths : ℕ) → mult * interval ≤ mult * max 1000 thousandths * interval / 1000
at_least mult interval thousandths =
    let more : mult * 1000 ≤ mult * max 1000 thousandths = mul-le-mul_left mult (let le : 1000 ≤ max 1000 thousandths = omega arith in le) in
    let all : mult * 1000 * interval ≤ mult * max 1000 thousandths * interval = mul-le-mul_right interval more in
    let turned : mult * interval * 1000 ≡ mult * 1000 * interval = mul_right_comm mult interval 1000 in
    le-div (mult * interval) (mult * max 1000 thousandths * interval) 1000 (let some : 0 < 1000 = omega arith in some)
    (subst (λ n. n ≤ mult * max 1000 thousandths * interval) (sym turned) all)

module _ (name : List ℕ) (first : Member) where
  abbrev Is : Entry → Type 0
  Is = IsSpared first.time

  -- a suspicion is not over before that time
  not_over : (config : Config) (now start accusers due : ℕ) (span : Span) → config ≡ first.settings → first.time ≤ start
      → now < min (first.time + shortest first.settings) (2 ^ 64 - 1) → IsDue span accusers start due → due ≤ now → IsBegun config span → ⊥
  not_over config now start accusers due span same late soon (r, lasts, is) over begun =
      let least : config.suspicion_mult * config.probe_interval ≤ span.least =
      subst (λ n. config.suspicion_mult * config.probe_interval ≤ n) (sym begun.least)
      (at_least config.suspicion_mult config.probe_interval begun.thousandths) in
      let lasts_long = (between span.wanted (min span.wanted (accusers - 1)) span.least span.most r (omega arith) begun.ordered lasts).0 in
      let settings : shortest first.settings ≡ shortest config = ap shortest (sym same) in
      let whole : shortest config ≡ 1000 * (config.suspicion_mult * config.probe_interval) = refl in
      omega (arith, least, lasts_long, settings, whole, late, soon, is, over)

  death_step : (now : ℕ) (what : Input) (old new : Member) → IsStep now what old new
      → ((said : Said) → IsToldBy what new.time old said → IsNoEnd name said)
      → new.settings ≡ first.settings → first.time ≤ new.time → new.time < min (first.time + shortest first.settings) (2 ^ 64 - 1)
      → IsAscending old.view.entries → IfSome (entry_of old.view name) Is → IfSome (entry_of new.view name) Is
  death_step now what old new step such same later soon up was =
      let (told, each, shows) = step.shows in
      let (word, own, went) = goes_in what told old new shows in
      (holds_on Is new.settings new.own.name new.time told name (refl, λ accused. absurd (cc (accused)))
      (λ view said ground about_it entry is still. rule told each view said ground about_it entry is still)
      (λ wait inc who details entry still. one_still wait new.time first.time later entry (Alive who inc details true) refl still)
      old.view word went (up, was)).1
    where
      rule : (told : List Said) → All (IsToldBy what new.time old) told → (view : ViewValue) (said : Said)
          → HasGround new.settings new.own.name new.time told view said → name ≡ about said → (entry : Entry)
          → entry ≡ entry_or_blank new.time (entry_of view name) → Is entry
          → IfSome (change_of_entry view.wait new.time entry said) (λ p. Is p.0)
      rule told each view said (is_told among) about_it entry is still =
          one_still view.wait new.time first.time later entry said
          (such said (of_all (IsToldBy what new.time old) told each said (in_from_contains told said among)) (sym about_it)) still
      rule told each view said (is_over dead inc long) about_it entry is still =
          let same_name : name ≡ dead = about_it ∙ about_death dead inc new.own.name in
          let there : entry ≡ long.entry = the_entry (entry_of view name) new.time entry long.entry
          (ap (entry_of view) same_name ∙ long.shown) is in
          let accused : is_accused entry.state ≡ true = ap (λ (e : Entry). is_accused e.state) there ∙ ap is_accused long.suspect in
          let since : first.time ≤ long.entry.since = subst (λ (e : Entry). first.time ≤ e.since) there (still.1 accused) in
          absurd (∥∥₁_elim long.begun (λ x. absurd x)
          (not_over new.settings new.time long.entry.since (length long.by) long.due long.span same since soon long.until long.over))

-- its time and configuration
pub record Later (first last : Member) : Type 0 where
  pub settings : last.settings ≡ first.settings
  pub time : first.time ≤ last.time

pub later_on : {IsSuch : Said → Type 0} {first last : Member} → Lives IsSuch first last → Later first last
later_on begins = record { settings = refl; time = omega arith }
later_on (goes_on {old} {new} now what step such before) =
    let was = later_on before in
    record { settings = step.settings ∙ was.settings; time = omega (arith, step.time, was.time) }

still_here : (name : List ℕ) {first last : Member} → Lives (IsNoEnd name) first last
    → IfSome (entry_of first.view name) (IsSpared first.time) → last.time < min (first.time + shortest first.settings) (2 ^ 64 - 1)
    → ∥ IfSome (entry_of last.view name) (IsSpared first.time) ∥₁
still_here name begins was soon = ∣ was ∣₁
still_here name {first} (goes_on {old} {new} now what step such before) was soon =
    let here = later_on (goes_on now what step such before) in
    ∥∥₁_elim old.viewed ∥∥₁_prop (λ past.
    ∥∥₁_map (still_here name before was (omega (arith, step.time, soon)))
    (death_step name first now what old new step such here.settings here.time soon past.1.0.ascending))

pub no_early_death : (name : List ℕ) (first last : Member) → Lives (IsNoEnd name) first last → IsWell name first.view
    → last.time < min (first.time + shortest first.settings) (2 ^ 64 - 1) → IsHere name last.view
no_early_death name first last life well soon = ∥∥₁_elim (still_here name life (begin (entry_of first.view name) well) soon)
    (flag_prop is_gone (entry_of last.view name)) (here (entry_of last.view name))
  where
    begin : (o : Option Entry) → IfSome o (λ e. (is_accused e.state ≡ false) × (is_gone e.state ≡ false)) → IfSome o (IsSpared first.time)
    begin None well = tt
    begin (Some e) (free, gone) = (gone, λ accused. absurd (cc (accused, free)))

    here : (o : Option Entry) → IfSome o (IsSpared first.time) → IfSome o (λ e. is_gone e.state ≡ false)
    here None was = tt
    here (Some e) was = was.0
