-- What is copied about a member.
use Rattle.std.specs.Prelude.{◌≡◌, ◌↔◌, ◌<◌, ℕ, take, replicate, true, false, Option, Some, None, MatchOption, IsTrue}
use Rattle.std.specs.Option.{option_map, option_and_then}
use Rattle.swim_claim.specs.Claim.{name_of, inc_of, kind_of, details_of}
use Rattle.swim_claim.specs.Details.{DetailsValue}
use Rattle.swim_wire.specs.Pairs.{state_number}
use Rattle.swim_table.specs.Standing.{Standing}
use Rattle.swim_c.specs.declared.member.Member.{Member}
use Rattle.swim_c.specs.Statuses as statuses

-- everything except the newest Alive, and also whether the member came back, is unchanged
pub record KeepsName (old new : Member) : Type 0 where
  pub state : new.state ≡ old.state
  pub inc : new.inc ≡ old.inc
  pub name_len : new.name_len ≡ old.name_len
  pub name : new.name ≡ old.name
  pub came_back : new.came_back ≡ old.came_back
  pub reserved : new.reserved ≡ old.reserved

-- what is copied of the details
pub record IsDetails (details : DetailsValue) (m : Member) : Type 0 where
  pub addr : take m.addr_len m.addr ≡ details.addr
  pub port : m.port ≡ details.port
  pub meta : take m.meta_len m.meta ≡ details.meta
  pub vsn : take m.vsn_len m.vsn ≡ details.vsn

-- what is copied of the newest Alive if there is none: zeros
pub record IsNoHome (m : Member) : Type 0 where
  pub has_home : m.has_home ≡ false
  pub home_inc : m.home_inc ≡ 0
  pub port : m.port ≡ 0
  pub addr_len : m.addr_len ≡ 0
  pub meta_len : m.meta_len ≡ 0
  pub vsn_len : m.vsn_len ≡ 0

-- what is copied of the newest Alive: its incarnation and its details, or that there is none
abbrev pub IsHome : Option ℕ → Option DetailsValue → Member → Type 0
IsHome (Some inc) (Some details) m = (m.has_home ≡ true) × (m.home_inc ≡ inc) × IsDetails details m
IsHome (Some inc) None m = IsNoHome m
IsHome None details m = IsNoHome m

-- the newest Alive has a greater incarnation than the member's state
abbrev pub CameBack : Standing → Type 0
CameBack entry = MatchOption entry.home ⊥ (λ home. inc_of entry.top < inc_of home)

-- the member's data are those of the entry
pub record IsMember (entry : Standing) (m : Member) : Type 0 where
  pub state : m.state ≡ state_number (kind_of entry.top)
  pub inc : m.inc ≡ inc_of entry.top
  pub name : take m.name_len m.name ≡ name_of entry.top
  pub home : IsHome (option_map inc_of entry.home) (option_and_then details_of entry.home) m
  pub came_back : IsTrue m.came_back ↔ CameBack entry
  pub reserved : m.reserved ≡ replicate 32 0

-- The entry was copied (0), or there is none and the data are unchanged (67).
abbrev pub MemberDone : Option Standing → Member → Member → ℕ → Type 0
MemberDone None old new status = (status ≡ statuses.no_member) × (new ≡ old)
MemberDone (Some entry) old new status = (status ≡ 0) × IsMember entry new
