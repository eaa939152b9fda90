-- A name about which nothing was heard but that it is alive, or suspected.
use Rattle.std.specs.Prelude.{◌≡◌, ⊤, ℕ, ◌<◌, ◌≤◌, true, Option, Some, None, List, ◌∷◌, ◌++◌, Contains}
use Rattle.swim_claim.specs.declared.claim.Claim.{Claim}
use Rattle.swim_claim.specs.declared.claim.Claim.TheVariants.{Alive, Suspect, Confirm, Leave}
use Rattle.swim_claim.specs.Claim.{name_of, inc_of}
use Rattle.swim_claim.specs.Details.{DetailsValue}
use Rattle.swim_table.specs.Standing.{Standing}
use Rattle.swim_table.specs.Join.{table_of}
use Rattle.swim_table.specs.Table.{IsAlive, get}
use Rattle.memberlist_view.specs.declared.entry.Entry.{Entry}
use Rattle.memberlist_view.specs.declared.entry.State.{State}
use Rattle.memberlist_view.specs.declared.entry.State.TheVariants as state
use Rattle.memberlist_view.specs.declared.heard.Heard.{Heard}
use Rattle.memberlist_view.specs.Rules.{are_sound_versions}
use Rattle.memberlist_view.specs.Shown.{shown}
use Rattle.swim_laws.specs.Claims.{claims_of}
use Rattle.swim_laws.specs.Places.{IsAtOnePlace}

-- an Alive with sound versions, or a Suspect
abbrev pub IsOfLife : Claim → Type 0
IsOfLife (Alive name inc details) = are_sound_versions details.vsn ≡ true
IsOfLife (Suspect name inc) = ⊤
IsOfLife (Confirm name inc) = ⊥
IsOfLife (Leave name inc) = ⊥

-- Who is suspected is not suspected at a greater incarnation: a suspicion that is greater than an
-- earlier one comes after something else that is greater than the earlier one. Where it is not so,
-- a view keeps the incarnation of the first suspicion: after Alive 1, Suspect 1 and Suspect 2 it
-- shows a suspicion at 1, and a table has one at 2.
abbrev pub IsFounded : List ℕ → List Claim → Type 0
IsFounded name claims = (past later : List Claim) (i j : ℕ)
    → claims ≡ past ++ Suspect name j ∷ later → Contains past (Suspect name i) → i < j
    → (c : Claim) × Contains past c × (name_of c ≡ name) × (i < inc_of c)

-- each suspicion of the name comes after an Alive of at least its incarnation
abbrev pub IsAfterAlives : List ℕ → List Claim → Type 0
IsAfterAlives name claims = (past later : List Claim) (j : ℕ)
    → claims ≡ past ++ Suspect name j ∷ later
    → (i : ℕ) × (details : DetailsValue) × Contains past (Alive name i details) × (j ≤ i)

-- nothing of the name but Alives with sound versions, at one place, and suspicions
pub record IsOneLife (name : List ℕ) (claims : List Claim) : Type 0 where
  pub lives : (c : Claim) → Contains claims c → name_of c ≡ name → IsOfLife c
  pub place : IsAtOnePlace name claims

-- the claim is a Suspect
abbrev pub IsSuspect : Claim → Type 0
IsSuspect (Alive name inc details) = ⊥
IsSuspect (Suspect name inc) = ⊤
IsSuspect (Confirm name inc) = ⊥
IsSuspect (Leave name inc) = ⊥

-- the state of a name whose top is this claim: alive where it is an Alive, but at incarnation 0,
-- which is not believed, only noted or seen; suspected where it is a Suspect
abbrev pub IsStateOf : Claim → State → Type 0
IsStateOf top state.Noted = IsAlive top × (inc_of top ≡ 0)
IsStateOf top state.Seen = IsAlive top × (inc_of top ≡ 0)
IsStateOf top state.Alive = IsAlive top × (0 < inc_of top)
IsStateOf top (state.Suspect by) = IsSuspect top
IsStateOf top (state.Dead by) = ⊥
IsStateOf top state.Left = ⊥

-- the view and the table show the same for a name: the same incarnation, and the state of the top.
-- Of one that is in no claim, packets may have shown that it is alive.
abbrev pub IsSame : Option Entry → Option Standing → Type 0
IsSame None None = ⊤
IsSame None (Some standing) = ⊥
IsSame (Some entry) None = entry.state ≡ state.Seen
IsSame (Some entry) (Some standing) = (entry.inc ≡ inc_of standing.top)
    × IsStateOf standing.top entry.state

-- they show the same for the name after each thing that was heard
abbrev pub IsSameThroughout : ℕ → List Heard → List ℕ → Type 0
IsSameThroughout wait heard name = (past later : List Heard) → heard ≡ past ++ later
    → IsSame (shown wait past name) (get (table_of (claims_of past)) name)
