-- The outcome of a line, from the packet on it.
use Rattle.std.proofs.Common.{◌≡◌, ℕ, List, Result, Ok, Err, IfOk, ap₂}
use Rattle.memberlist_transport.specs.declared.in_the_clear.InTheClear.{InTheClear}
use Rattle.swimunwrap.specs.declared.cause.Cause.{Cause}
use Rattle.swimunwrap.specs.declared.cause.Cause.TheVariants.{NotHex, Wrapped, NoMessage, NoKeyFits, Unencrypted}
use Rattle.swimunwrap.specs.declared.packet.Outcome.{Outcome}
use Rattle.swimunwrap.specs.declared.packet.Outcome.TheVariants.{Text, Unread}
use Rattle.swimunwrap.specs.Outcome.{IsOutcome, IsOutcomeOf}
use Rattle.swimunwrap.specs.Packet.{IsHexOf, accepted_on}
use Rattle.swimunwrap.specs.Unwrapped.{Shown}

-- the outcome of the bytes is that of the line
pub of_line : {E : Type 0} (policy : InTheClear) (keys : List (List ℕ)) (line bytes : List ℕ)
    (result : Result Outcome E) → IsHexOf line bytes
    → IfOk result (IsOutcomeOf (accepted_on policy bytes) keys bytes) → IfOk result (IsOutcome policy keys line)
of_line policy keys line bytes (Err e) decoded is = tt
of_line policy keys line bytes (Ok (Text text)) decoded is = (bytes, decoded, is)
of_line policy keys line bytes (Ok (Unread NotHex)) decoded is = absurd is
of_line policy keys line bytes (Ok (Unread NoKeyFits)) decoded is = (bytes, decoded, is)
of_line policy keys line bytes (Ok (Unread Unencrypted)) decoded is = (bytes, decoded, is)
of_line policy keys line bytes (Ok (Unread (Wrapped fault))) decoded is = (bytes, decoded, is)
of_line policy keys line bytes (Ok (Unread (NoMessage first))) decoded is = (bytes, decoded, is)

-- texts and causes make what is shown
pub shown : (t s : List ℕ) (k h : List Cause) → t ≡ s → k ≡ h
    → ◌≡◌ {A = Shown} (record { text = t; causes = k }) (record { text = s; causes = h })
shown t s k h same equal = ap₂ (λ x y. record { text = x; causes = y }) same equal
