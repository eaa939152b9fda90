-- The outcome of a line, step by step.
use Rattle.std.specs.Prelude.{ℕ, List, string_bytes}
use Rattle.memberlist_transport.specs.declared.in_the_clear.InTheClear.{InTheClear}
use Rattle.swimunwrap.specs.declared.packet.Outcome.{Outcome}
use Rattle.swimunwrap.specs.declared.packet.Outcome.TheVariants.{Text, Unread}
use Rattle.swimunwrap.specs.Packet.{ReadsLine, ReadsPacket, Fails, FailsBytes}

-- for a line
abbrev pub IsOutcome : InTheClear → List (List ℕ) → List ℕ → Outcome → Type 0
IsOutcome policy keys line (Text text) = ReadsLine policy keys line (string_bytes text)
IsOutcome policy keys line (Unread cause) = Fails policy keys line cause

-- for the packet on it
abbrev pub IsOutcomeOf : InTheClear → List (List ℕ) → List ℕ → Outcome → Type 0
IsOutcomeOf policy keys bytes (Text text) = ReadsPacket policy keys bytes (string_bytes text)
IsOutcomeOf policy keys bytes (Unread cause) = FailsBytes policy keys bytes cause
