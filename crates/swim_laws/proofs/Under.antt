-- What a view shows was claimed, and a table has nothing below it.
use Rattle.std.proofs.Common.{◌≡◌, ℕ, ◌<◌, ◌≤◌, ◌⊎◌, true, Option, Some, None, IfSome, List, Contains, refl, sym, ap}
use Rattle.std.proofs.Common.{subst, [], ◌∙◌, inl, inr, arith}
use Rattle.swim_claim.specs.declared.claim.Claim.{Claim}
use Rattle.swim_claim.specs.declared.claim.Claim.TheVariants as claim
use Rattle.swim_claim.specs.Claim.{name_of, inc_of, Overrides}
use Rattle.swim_claim.specs.Details.{DetailsValue}
use Rattle.swim_claim.specs.Rank.{finality}
use Rattle.swim_table.specs.Standing.{Standing}
use Rattle.swim_table.specs.Table.{Entries, get, IsAlive, Home, IsHomeOf, EntryOf, TableOf}
use Rattle.memberlist_view.specs.declared.entry.Entry.{Entry}
use Rattle.memberlist_view.specs.declared.entry.State.{State}
use Rattle.memberlist_view.specs.declared.entry.State.TheVariants as state
use Rattle.memberlist_view.specs.declared.heard.Heard.{Heard}
use Rattle.memberlist_view.specs.Rules.{is_gone}
use Rattle.memberlist_view.specs.Shown.{shown}
use Rattle.memberlist_view.specs.Sources.{Was, IsSaidAs, HasDetails, StateWasHeard, DetailsWereHeard, WasHeard}
use Rattle.memberlist_view.proofs.Sourced.{shown_heard}
use Rattle.swim_laws.specs.Above.{is_claimed, Gives, Has, IsStateBelow, AreDetailsBelow, IsFinalFrom, IsFinalOrFrom}
use Rattle.swim_laws.specs.Claims.{claim_of, claims_of}
use Rattle.swim_laws.specs.Places.{IsSamePlace, IsAtOnePlace, IsAliveAtPlace, IsHomeAt}
use Rattle.swim_laws.proofs.Claimed.{claimed}

-- ---- claims that do not override another one

pub not_below : (i j : ℕ) → ¬ (j < i) → i ≤ j
not_below i j h = grind (arith, h)

from_final : (c top : Claim) → finality c ≡ 1 → ¬ Overrides c top → (finality top ≡ 1) × (inc_of c ≤ inc_of top)
from_final (claim.Confirm n i) (claim.Alive m j e) f not = absurd (not tt)
from_final (claim.Confirm n i) (claim.Suspect m j) f not = absurd (not tt)
from_final (claim.Confirm n i) (claim.Confirm m j) f not = (refl, not_below i j not)
from_final (claim.Confirm n i) (claim.Leave m j) f not = (refl, not_below i j not)
from_final (claim.Leave n i) (claim.Alive m j e) f not = absurd (not tt)
from_final (claim.Leave n i) (claim.Suspect m j) f not = absurd (not tt)
from_final (claim.Leave n i) (claim.Confirm m j) f not = (refl, below i j not)
  where
    below : (i j : ℕ) → ¬ (j ≤ i) → i ≤ j
    below i j h = grind (arith, h)
from_final (claim.Leave n i) (claim.Leave m j) f not = (refl, not_below i j not)
from_final (claim.Alive n i d) top f not = absurd (omega (arith, f))
from_final (claim.Suspect n i) top f not = absurd (omega (arith, f))

from_any : (c top : Claim) → ¬ Overrides c top → (finality top ≡ 1) ⊎ (inc_of c ≤ inc_of top)
from_any (claim.Alive n i d) (claim.Alive m j e) not = inr (not_below i j (λ lt. not (inl lt)))
from_any (claim.Alive n i d) (claim.Suspect m j) not = inr (not_below i j not)
from_any (claim.Suspect n i) (claim.Alive m j e) not = inr (below i j not)
  where
    below : (i j : ℕ) → ¬ (j ≤ i) → i ≤ j
    below i j h = grind (arith, h)
from_any (claim.Suspect n i) (claim.Suspect m j) not = inr (not_below i j not)
from_any (claim.Confirm n i) (claim.Alive m j e) not = absurd (not tt)
from_any (claim.Confirm n i) (claim.Suspect m j) not = absurd (not tt)
from_any (claim.Leave n i) (claim.Alive m j e) not = absurd (not tt)
from_any (claim.Leave n i) (claim.Suspect m j) not = absurd (not tt)
from_any c (claim.Confirm m j) not = inl refl
from_any c (claim.Leave m j) not = inl refl

-- ---- the claim that gives a state

-- it is this claim that was heard
pub record IsClaimOf (name : List ℕ) (inc : ℕ) (s : State) (heard : Heard) (c : Claim) : Type 0 where
  pub is : claim_of heard.said ≡ Some c
  pub about : name_of c ≡ name
  pub at : inc_of c ≡ inc
  pub ends : is_gone s ≡ true → finality c ≡ 1

giving : (name : List ℕ) (inc : ℕ) (s : State) (heard : Heard) → Gives name inc s heard → (c : Claim) × IsClaimOf name inc s heard c
giving name inc state.Noted heard g = absurd g
giving name inc state.Seen heard g = absurd g
giving name inc state.Alive heard g = (
  claim.Alive name inc g.0,
  record { is = ap claim_of g.2; about = refl; at = refl; ends = λ gone. absurd (cc (gone)) },
)
giving name inc (state.Suspect by) heard g = elim g [
  | inl said ↦ (
    claim.Suspect name inc,
    record { is = ap claim_of said.1; about = refl; at = refl; ends = λ gone. absurd (cc (gone)) },
  )
  | inr said ↦ (
    claim.Confirm name inc,
    record { is = ap claim_of said; about = refl; at = refl; ends = λ gone. refl },
  )
]
giving name inc (state.Dead by) heard g = (
  claim.Confirm name inc,
  record { is = ap claim_of g; about = refl; at = refl; ends = λ gone. refl },
)
giving name inc state.Left heard g = elim g [
  | inl said ↦ (
    claim.Confirm name inc,
    record { is = ap claim_of said; about = refl; at = refl; ends = λ gone. refl },
  )
  | inr said ↦ (
    claim.Leave name inc,
    record { is = ap claim_of said; about = refl; at = refl; ends = λ gone. refl },
  )
]

given : (heard : List Heard) (name : List ℕ) (inc : ℕ) (details : Option DetailsValue) (s : State) → is_claimed s ≡ true
    → StateWasHeard heard name inc details s → Was heard (Gives name inc s)
given heard name inc details state.Noted c w = absurd (cc (c))
given heard name inc details state.Seen c w = absurd (cc (c))
given heard name inc details state.Alive c w = (w.2.0, w.2.1, (w.2.2.0, w.2.2.1, w.2.2.2, w.2.2.3))
given heard name inc details (state.Suspect by) c w = w.0
given heard name inc details (state.Dead by) c w = w
given heard name inc details state.Left c w = w

pub gone_claimed : (s : State) → is_gone s ≡ true → is_claimed s ≡ true
gone_claimed state.Noted h = absurd (cc (h))
gone_claimed state.Seen h = absurd (cc (h))
gone_claimed state.Alive h = refl
gone_claimed (state.Suspect by) h = refl
gone_claimed (state.Dead by) h = refl
gone_claimed state.Left h = refl

pub was_heard : (wait : ℕ) (heard : List Heard) (name : List ℕ) (entry : Entry) → shown wait heard name ≡ Some entry
    → WasHeard heard name entry
was_heard wait heard name entry is = subst (λ o. IfSome o (WasHeard heard name)) is (shown_heard wait name heard [] None tt)

-- ---- what the table has

module _ (all : List Claim) (name : List ℕ) (table : Entries) (of : TableOf table all) where
  -- the table has a name that was claimed, and the claim does not override its top
  pub has_claimed : (c : Claim) → Contains all c → name_of c ≡ name → Has table name (λ s. ¬ Overrides c s.top)
  has_claimed c made about = by_answer (get table name) refl (of.each name)
    where
      by_answer : (o : Option Standing) → get table name ≡ o → EntryOf all name o → Has table name (λ s. ¬ Overrides c s.top)
      by_answer None e says = absurd (says c made about)
      by_answer (Some s) e says = (s, e, says.top.greatest c made (about ∙ sym says.about))

  -- the table has the home of a name whose details were heard
  pub home_of : (alive : Claim) → Contains all alive → IsAlive alive → name_of alive ≡ name
      → Has table name (λ s. (home : Claim) × (s.home ≡ Some home) × (name_of home ≡ name) × Home home all)
  home_of alive made is about =
      let h = has_claimed alive made about in
      (h.0, h.1, by_home h.0 h.0.home refl (home_says h.0 h.1))
    where
      home_says : (s : Standing) → get table name ≡ Some s → IsHomeOf all name s.home
      home_says s e = (subst (EntryOf all name) e (of.each name)).home

      by_home : (s : Standing) (o : Option Claim) → s.home ≡ o → IsHomeOf all name o
          → (home : Claim) × (s.home ≡ Some home) × (name_of home ≡ name) × Home home all
      by_home s None e says = absurd (says alive made is about)
      by_home s (Some home) e says = (home, e, says.0, says.1)

  module _ (heard : List Heard) (within : (c : Claim) → Contains (claims_of heard) c → Contains all c) (entry : Entry)
      (w : WasHeard heard name entry) where
    was_taken : (h : Heard) (c : Claim) → Contains heard h → claim_of h.said ≡ Some c → Contains all c
    was_taken h c at is = within c (claimed heard h c at is)

    state_given : is_claimed entry.state ≡ true → Was heard (λ h. (c : Claim) × IsClaimOf name entry.inc entry.state h c)
    state_given claims =
        let g = given heard name entry.inc entry.details entry.state claims w.state in
        (g.0, g.1, giving name entry.inc entry.state g.0 g.2)

    pub state_below : is_claimed entry.state ≡ true → Has table name (IsStateBelow heard name entry)
    state_below claims =
        let g = given heard name entry.inc entry.details entry.state claims w.state in
        let c = giving name entry.inc entry.state g.0 g.2 in
        let h = has_claimed c.0 (was_taken g.0 c.0 g.1 c.1.is) c.1.about in
        (h.0, h.1, (g.0, g.1, (g.2, (c.0, c.1.is, h.2))))

    pub final_from : is_gone entry.state ≡ true → Has table name (IsFinalFrom entry.inc)
    final_from gone =
        let g = state_given (gone_claimed entry.state gone) in
        let h = has_claimed g.2.0 (was_taken g.0 g.2.0 g.1 g.2.1.is) g.2.1.about in
        let f = from_final g.2.0 h.0.top (g.2.1.ends gone) h.2 in
        (h.0, h.1, (f.0, subst (λ i. i ≤ inc_of h.0.top) g.2.1.at f.1))

    pub final_or_from : is_claimed entry.state ≡ true → Has table name (IsFinalOrFrom entry.inc)
    final_or_from claims =
        let g = state_given claims in
        let h = has_claimed g.2.0 (was_taken g.0 g.2.0 g.1 g.2.1.is) g.2.1.about in
        (h.0, h.1, subst (λ i. (finality h.0.top ≡ 1) ⊎ (i ≤ inc_of h.0.top)) g.2.1.at (from_any g.2.0 h.0.top h.2))

    details_heard : (details : DetailsValue) → entry.details ≡ Some details → Was heard (HasDetails name details)
    details_heard details is = (subst (λ o. IfSome o (DetailsWereHeard heard name)) is w.details).0

    pub details_below : (details : DetailsValue) → entry.details ≡ Some details → Has table name (AreDetailsBelow heard name details)
    details_below details is =
        let d = details_heard details is in
        let alive : Claim = claim.Alive name d.2.0 d.2.1.0 in
        let claims : claim_of d.0.said ≡ Some alive = ap claim_of d.2.1.2 in
        let made : Contains all alive = was_taken d.0 alive d.1 claims in
        let h = home_of alive made tt refl in
        (h.0, h.1, (h.2.0, h.2.1, (d.0, d.1, (d.2, (alive, claims, h.2.3.greatest alive made tt (sym h.2.2))))))

    pub home_at : IsAtOnePlace name all → (details : DetailsValue) → entry.details ≡ Some details
        → Has table name (IsHomeAt details)
    home_at one details is =
        let d = details_heard details is in
        let alive : Claim = claim.Alive name d.2.0 d.2.1.0 in
        let made : Contains all alive = was_taken d.0 alive d.1 (ap claim_of d.2.1.2) in
        let h = home_of alive made tt refl in
        (h.0, h.1, (h.2.0, h.2.1, at h.2.0 h.2.2 h.2.3.alive h.2.3.made d.2.0 d.2.1.0 made d.2.1.4))
      where
        said_there : (said other : DetailsValue) → IsSaidAs details said → IsSamePlace said other → IsSamePlace details other
        said_there said other same place = elim same [
          | inl is ↦ (ap (λ (x : DetailsValue). x.addr) is ∙ place.0, ap (λ (x : DetailsValue). x.port) is ∙ place.1)
          | inr is ↦ (ap (λ (x : DetailsValue). x.addr) is.1 ∙ place.0, ap (λ (x : DetailsValue). x.port) is.1 ∙ place.1)
        ]

        at : (home : Claim) → name_of home ≡ name → IsAlive home → Contains all home → (i : ℕ) (said : DetailsValue)
            → Contains all (claim.Alive name i said) → IsSaidAs details said → IsAliveAtPlace details home
        at (claim.Alive n j e) about a made i said too same = said_there said e same
            (one i j said e too (subst (λ m. Contains all (claim.Alive m j e)) about made))
        at (claim.Suspect n j) about a made i said too same = a
        at (claim.Confirm n j) about a made i said too same = a
        at (claim.Leave n j) about a made i said too same = a
