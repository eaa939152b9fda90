-- A member from step to step.
use Rattle.std.specs.Prelude.{◌≡◌, ⊤, ℕ, ◌*◌, max, Bool, true, false, IfSome}
use Rattle.std.specs.Prelude.{List}
use Rattle.memberlist_view.specs.Heard.{about}
use Rattle.memberlist_view.specs.Rules.{is_gone}
use Rattle.memberlist_view.specs.Told.{ViewValue, entry_of}
use Rattle.memberlist_view.specs.declared.entry.State.{State}
use Rattle.memberlist_view.specs.declared.entry.State.TheVariants as state
use Rattle.memberlist_view.specs.declared.heard.Said.{Said}
use Rattle.memberlist_view.specs.declared.heard.Said.TheVariants.{Alive, Suspect, Dead, Left, Seen}
use Rattle.memberlist_member.specs.Steps.{IsToldBy, Probes, Shows}
use Rattle.memberlist_member.specs.declared.config.Config.{Config}
use Rattle.memberlist_member.specs.declared.input.Input.{Input}
use Rattle.memberlist_member.specs.declared.member.Member.{Member}

-- one step, as its contract says
pub record IsStep (now : ℕ) (what : Input) (old new : Member) : Type 0 where
  pub time : new.time ≡ max old.time now
  pub settings : new.settings ≡ old.settings
  pub name : new.own.name ≡ old.own.name
  pub shows : Shows what old new
  pub probes : Probes what old new

-- Steps from a first member on, in which whatever it is told is such.
pub data Lives (IsSuch : Said → Type 0) (first : Member) : Member → Type 0 where
  begins : Lives IsSuch first first
  goes_on : {old new : Member} (now : ℕ) (what : Input) → IsStep now what old new
      → ((said : Said) → IsToldBy what new.time old said → IsSuch said)
      → Lives IsSuch first old → Lives IsSuch first new

-- ---- accusations

-- that a member is suspect or dead
abbrev pub is_accusation : Said → Bool
is_accusation (Alive name inc details joins) = false
is_accusation (Suspect name inc from) = true
is_accusation (Dead name inc from) = true
is_accusation (Left name inc) = false
is_accusation (Seen name place) = false

-- it says so of another one than this
abbrev pub Spares : List ℕ → Said → Type 0
Spares name said = about said ≡ name → is_accusation said ≡ false

-- it is shown so
abbrev pub is_accused : State → Bool
is_accused state.Noted = false
is_accused state.Seen = false
is_accused state.Alive = false
is_accused (state.Suspect by) = true
is_accused (state.Dead by) = true
is_accused state.Left = false

abbrev pub IsClear : List ℕ → ViewValue → Type 0
IsClear name view = IfSome (entry_of view name) (λ e. is_accused e.state ≡ false)

-- ---- deaths

-- that a member is dead or left
abbrev pub is_end : Said → Bool
is_end (Alive name inc details joins) = false
is_end (Suspect name inc from) = false
is_end (Dead name inc from) = true
is_end (Left name inc) = true
is_end (Seen name place) = false

-- nobody says so of this one
abbrev pub IsNoEnd : List ℕ → Said → Type 0
IsNoEnd name said = about said ≡ name → is_end said ≡ false

-- it is shown neither as suspect nor as dead or left
abbrev pub IsWell : List ℕ → ViewValue → Type 0
IsWell name view = IfSome (entry_of view name) (λ e. (is_accused e.state ≡ false) × (is_gone e.state ≡ false))

-- it is not shown as dead or left
abbrev pub IsHere : List ℕ → ViewValue → Type 0
IsHere name view = IfSome (entry_of view name) (λ e. is_gone e.state ≡ false)

-- the shortest suspicion in any cluster, in microseconds
abbrev pub shortest : Config → ℕ
shortest config = 1000 * (config.suspicion_mult * config.probe_interval)

-- the longest, in the largest cluster
abbrev pub longest : Config → ℕ
longest config = 1000 * (config.suspicion_max_timeout_mult * (10 * (config.suspicion_mult * config.probe_interval)))

-- ---- runs

-- steps from a first member on, whatever it is told
abbrev pub Runs : Member → Member → Type 0
Runs first last = Lives (λ said. ⊤) first last
