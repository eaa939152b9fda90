-- A refutation is believed, and nothing older after it.
use Rattle.std.proofs.Common.{◌≡◌, ℕ, ◌<◌, Bool, true, false, cond, nat_lt, nat_le, List, Option, Some, None, refl, sym, subst, arith}
use Rattle.std.proofs.lemmas.Bool.Decides.{nat_tests}
use Rattle.swim_claim.specs.Details.{DetailsValue}
use Rattle.memberlist_view.specs.declared.entry.Entry.{Entry}
use Rattle.memberlist_view.specs.declared.entry.State.{State}
use Rattle.memberlist_view.specs.declared.entry.State.TheVariants as state
use Rattle.memberlist_view.specs.declared.event.Event.{Event}
use Rattle.memberlist_view.specs.declared.event.Event.TheVariants as event
use Rattle.memberlist_view.specs.declared.heard.Said.{Said}
use Rattle.memberlist_view.specs.declared.heard.Said.TheVariants.{Alive, Suspect, Dead, Left, Seen}
use Rattle.memberlist_view.specs.Rules.{Change, alive, alive_after, alive_again, alive_at, alive_elsewhere, alive_since, are_sound_versions, believed}
use Rattle.memberlist_view.specs.Rules.{change_of_entry, is_forgotten, with_versions}
use Rattle.memberlist_view.specs.Rules.{suspected, ended_by}
use Rattle.memberlist_member.specs.Refuting.{HoldsAlive, IsFromThere, IsOlder}

below : (a b : ℕ) → a < b → nat_lt a b ≡ true
below a b less = grind (arith, nat_tests)

above : (a b : ℕ) → a < b → nat_le b a ≡ false
above a b less = grind (arith, nat_tests)

-- the first of two, since the test is true
first : {A : Type 0} (t : Bool) (x y : A) → t ≡ true → cond t x y ≡ x
first t x y is = subst (λ u. cond u x y ≡ x) (sym is) refl

module _ (wait inc : ℕ) where
  stays : (entry : Entry) → entry.inc ≡ inc → (time : ℕ) (said : Said) → IsOlder inc said → change_of_entry wait time entry said ≡ None
  stays entry at time (Alive name older details joins) none = absurd none
  stays entry at time (Suspect name older from) less =
      first (nat_lt older entry.inc) None (suspected entry.state time entry older from) (below older entry.inc (subst (λ n. older < n) (sym at) less))
  stays entry at time (Dead name older from) less =
      first (nat_lt older entry.inc) None (ended_by name from time entry older) (below older entry.inc (subst (λ n. older < n) (sym at) less))
  stays entry at time (Left name older) less = grind (arith, nat_tests)
  stays entry at time (Seen name place) none = absurd none

  since : (time : ℕ) (details : DetailsValue) (what : Event) → HoldsAlive wait inc (Some (alive_since time inc details, what))
  since time details what = record {
    entry = alive_since time inc details;
    event = what;
    is = refl;
    alive = refl;
    at = refl;
    stays = stays (alive_since time inc details) refl;
  }

  again : (was : State) (time : ℕ) (entry : Entry) (details : DetailsValue) (joins : Bool)
      → HoldsAlive wait inc (alive_again was time entry inc details joins)
  again state.Noted time entry details joins = since time details _
  again state.Seen time entry details joins = since entry.since details _
  again state.Alive time entry details joins = since entry.since details _
  again (state.Suspect by) time entry details joins = since time details _
  again (state.Dead by) time entry details joins = since time details _
  again state.Left time entry details joins = since time details _

  to_believe : (time : ℕ) (entry : Entry) (details : DetailsValue) (joins : Bool) (other : Change) → entry.inc < inc
      → HoldsAlive wait inc (cond (nat_le inc entry.inc) other (believed time entry inc details joins))
  to_believe time entry details joins other less =
      subst (λ t. HoldsAlive wait inc (cond t other (believed time entry inc details joins))) (sym (above entry.inc inc less))
      (again entry.state time entry (with_versions entry.details details) joins)

  there : (known : Option DetailsValue) (time : ℕ) (entry : Entry) (details : DetailsValue) (joins : Bool) → IsFromThere known details
      → entry.inc < inc → HoldsAlive wait inc (alive_at known time entry inc details joins)
  there None time entry details joins from less = to_believe time entry details joins _ less
  there (Some known) time entry details joins from less =
      subst (λ t. HoldsAlive wait inc (cond t (cond (nat_le inc entry.inc) None (believed time entry inc details joins)) (alive_elsewhere time entry inc details))) (sym from)
      (to_believe time entry details joins None less)

  heard : (time : ℕ) (entry : Entry) (details : DetailsValue) (joins : Bool) → IsFromThere entry.details details
      → entry.inc < inc → (t : Bool)
      → HoldsAlive wait inc (cond t (alive_after time inc details) (alive_at entry.details time entry inc details joins))
  heard time entry details joins from less true =
      subst (λ t. HoldsAlive wait inc (cond t (Some (alive_since time inc details, event.Back)) None)) (sym (below 0 inc (let some : 0 < inc = omega (arith, less) in some)))
      (since time details _)
  heard time entry details joins from less false = there entry.details time entry details joins from less

  pub refuted : (time : ℕ) (entry : Entry) (name : List ℕ) (details : DetailsValue) (joins : Bool) → IsFromThere entry.details details
      → entry.inc < inc → are_sound_versions details.vsn ≡ true
      → HoldsAlive wait inc (change_of_entry wait time entry (Alive name inc details joins))
  refuted time entry name details joins from less sound =
      subst (λ t. HoldsAlive wait inc (cond t (alive wait time entry inc details joins) None)) (sym sound)
      (heard time entry details joins from less (is_forgotten wait time entry))
