-- Causes, each with its own place.
use Rattle.std.specs.Prelude.{ℕ, ◌+◌, Bool, true}
use Rattle.memberlist_wrap.specs.Fault.{wrap_number}
use Rattle.swimunwrap.specs.declared.cause.Cause.{Cause}
use Rattle.swimunwrap.specs.declared.cause.Cause.TheVariants.{NotHex, Wrapped, NoMessage, NoKeyFits, Unencrypted}

-- a place for each cause: faults of wrappers have that of their number, 40 to 49, and first bytes
-- the 256 after these
abbrev pub cause_place : Cause → ℕ
cause_place NotHex = 0
cause_place NoKeyFits = 1
cause_place Unencrypted = 2
cause_place (Wrapped fault) = wrap_number fault
cause_place (NoMessage first) = first + 50

-- whether a line that cannot be read for this cause is left out: any is if they are skipped, and one
-- that is not encrypted always is
abbrev pub leaves_out : Bool → Cause → Bool
leaves_out skip Unencrypted = true
leaves_out skip cause = skip
