-- From which claim a state that a view shows comes, and that a table has nothing below that claim.
use Rattle.std.specs.Prelude.{◌≡◌, ℕ, ◌≤◌, ◌⊎◌, Bool, true, false, Some, List, Contains}
use Rattle.swim_claim.specs.declared.claim.Claim.{Claim}
use Rattle.swim_claim.specs.Claim.{inc_of, Overrides}
use Rattle.swim_claim.specs.Details.{DetailsValue}
use Rattle.swim_claim.specs.Rank.{finality}
use Rattle.swim_table.specs.Standing.{Standing}
use Rattle.swim_table.specs.Table.{Entries, TableOf, get}
use Rattle.memberlist_view.specs.declared.entry.Entry.{Entry}
use Rattle.memberlist_view.specs.declared.entry.State.{State}
use Rattle.memberlist_view.specs.declared.entry.State.TheVariants as state
use Rattle.memberlist_view.specs.declared.heard.Heard.{Heard}
use Rattle.memberlist_view.specs.declared.heard.Said.TheVariants.{Dead}
use Rattle.memberlist_view.specs.Sources.{Was, IsAliveAt, HasDetails, Suspects, Leaves}
use Rattle.swim_laws.specs.Claims.{claim_of}

-- whether somebody claims such a state: a name is noted by an Alive that is not believed, and seen
-- by a packet
abbrev pub is_claimed : State → Bool
is_claimed state.Noted = false
is_claimed state.Seen = false
is_claimed state.Alive = true
is_claimed (state.Suspect by) = true
is_claimed (state.Dead by) = true
is_claimed state.Left = true

-- What gives a name a state at an incarnation: alive, an Alive with sound versions; suspected, a
-- Suspect, or a Confirm that names nobody; dead, a Confirm by this member; left, a Leave, or a
-- Confirm by the member itself.
abbrev pub Gives : List ℕ → ℕ → State → Heard → Type 0
Gives name inc state.Noted heard = ⊥
Gives name inc state.Seen heard = ⊥
Gives name inc state.Alive heard = IsAliveAt name inc heard
Gives name inc (state.Suspect by) heard = Suspects name inc heard
Gives name inc (state.Dead by) heard = heard.said ≡ Dead name inc by
Gives name inc state.Left heard = Leaves name inc heard

-- the claim that was heard does not override this one
abbrev pub IsNotAbove : Claim → Heard → Type 0
IsNotAbove top heard = (c : Claim) × (claim_of heard.said ≡ Some c) × ¬ Overrides c top

-- the table took in these claims, and maybe more
abbrev pub TookIn : Entries → List Claim → Type 0
TookIn table claims = (all : List Claim) × TableOf table all
    × ((c : Claim) → Contains claims c → Contains all c)

-- what the table has for the name
abbrev pub Has : Entries → List ℕ → (Standing → Type 0) → Type 0
Has table name P = (standing : Standing) × (get table name ≡ Some standing) × P standing

-- the name's state was heard, and does not override the top
abbrev pub IsStateBelow : List Heard → List ℕ → Entry → Standing → Type 0
IsStateBelow heard name entry standing =
    Was heard (λ h. Gives name entry.inc entry.state h × IsNotAbove standing.top h)

-- there is a home, and the name's details were heard in an Alive that does not override it
abbrev pub AreDetailsBelow : List Heard → List ℕ → DetailsValue → Standing → Type 0
AreDetailsBelow heard name details standing = (home : Claim) × (standing.home ≡ Some home)
    × Was heard (λ h. HasDetails name details h × IsNotAbove home h)

-- the top is final, at this incarnation or a greater one
abbrev pub IsFinalFrom : ℕ → Standing → Type 0
IsFinalFrom inc standing = (finality standing.top ≡ 1) × (inc ≤ inc_of standing.top)

-- the top is final, or is at this incarnation or a greater one
abbrev pub IsFinalOrFrom : ℕ → Standing → Type 0
IsFinalOrFrom inc standing = (finality standing.top ≡ 1) ⊎ (inc ≤ inc_of standing.top)
