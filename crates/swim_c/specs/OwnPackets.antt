-- Packets that a member makes.
use Rattle.std.specs.Prelude.{◌≡◌, ℕ, ◌<◌, ◌⊎◌, List, [], length}
use Rattle.swim_claim.specs.Limits.{max_name_len}
use Rattle.swim_wire.specs.Canonical.{packet_bytes}
use Rattle.swim_wire.specs.Packet.{PacketValue}
use Rattle.swim_wire.specs.Texts.{PacketText}
use Rattle.swim_c.specs.Buffers.{Copied}
use Rattle.swim_c.specs.Statuses as statuses

-- The canonical bytes of the packet were written or did not fit. Or there is none for this reason,
-- and the buffer is unchanged.
pub data SaidOr (packet : PacketValue) (old new : List ℕ) (status len : ℕ)
    (Refused : ℕ → Type 0) : Type 0 where
  said : PacketText (packet_bytes packet) packet → Copied (packet_bytes packet) old new status len
      → SaidOr packet old new status len Refused
  refused : Refused status → len ≡ 0 → new ≡ old → SaidOr packet old new status len Refused

-- the name is empty (11) or too long (12), or memory was refused (10)
abbrev pub IsNoName : List ℕ → ℕ → Type 0
IsNoName name status =
    ((status ≡ 11) × (name ≡ [])) ⊎ ((status ≡ 12) × (max_name_len < length name))
    ⊎ (status ≡ statuses.memory)

-- the name is the member's own (68), or invalid
abbrev pub IsUnsaid : List ℕ → List ℕ → ℕ → Type 0
IsUnsaid own name status = ((status ≡ statuses.own_name) × (name ≡ own)) ⊎ IsNoName name status

-- the name of who says so is too long (12), or that of the other member is invalid
abbrev pub IsUnsaidBy : List ℕ → List ℕ → ℕ → Type 0
IsUnsaidBy from name status =
    ((status ≡ 12) × (max_name_len < length from)) ⊎ IsNoName name status
