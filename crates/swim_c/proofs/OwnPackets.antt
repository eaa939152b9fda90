-- Packets that were written, with other names and causes.
use Rattle.std.proofs.Common.{◌≡◌, ℕ, List, subst}
use Rattle.swim_wire.specs.Packet.{PacketValue}
use Rattle.swim_c.specs.OwnPackets.{SaidOr}

by_cause : (p : PacketValue) (old new : List ℕ) (status len : ℕ) (Was Is : ℕ → Type 0)
    → (Was status → Is status) → SaidOr p old new status len Was
    → SaidOr p old new status len Is
by_cause p old new status len Was Is weaker (SaidOr.said text copied) = SaidOr.said text copied
by_cause p old new status len Was Is weaker (SaidOr.refused why no_len same) = SaidOr.refused (weaker why) no_len same

-- the same packet, with further causes of a refusal
pub said : (p q : PacketValue) (old new : List ℕ) (status len : ℕ) (Was Is : ℕ → Type 0) → p ≡ q
    → (Was status → Is status) → SaidOr p old new status len Was
    → SaidOr q old new status len Is
said p q old new status len Was Is same weaker done =
    subst (λ (r : PacketValue). SaidOr r old new status len Is) same (by_cause p old new status len Was Is weaker done)
