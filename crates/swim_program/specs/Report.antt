-- Where a run was refused, and the exit status.
use Rattle.std.specs.Prelude.{◌≡◌, ℕ, ◌<◌, Some, None, List, Err}
use Rattle.hex.specs.declared.error.FromHexError.{FromHexError}
use Rattle.hex.specs.declared.error.FromHexError.TheVariants.{OutOfMemory}
use Rattle.swim_wire.specs.declared.fault.WireFault.{WireFault}
use Rattle.swim_wire.specs.declared.fault.WireFault.TheVariants as wire
use Rattle.swim_wire.specs.Datagrams.{whole_datagram}
use Rattle.swim_wire.specs.Fault.{wire_number}
use Rattle.swim_program.specs.declared.report.Place.{Place}
use Rattle.swim_program.specs.declared.report.Place.TheVariants.{Line, File, Input, Output, Loop}
use Rattle.swim_program.specs.declared.report.What.{What}
use Rattle.swim_program.specs.declared.report.What.TheVariants.{Refused, Device, Memory}

-- a file is one of this many
abbrev pub IsAmong : Place → ℕ → Type 0
IsAmong (Line line) files = Unit {0}
IsAmong (File file) files = file < files
IsAmong Input files = Unit {0}
IsAmong Output files = Unit {0}
IsAmong Loop files = Unit {0}

-- the exit status
abbrev pub status_of : What → ℕ
status_of (Refused number found) = 3
status_of Device = 4
status_of Memory = 5

-- the report of a text that is not hexadecimal
abbrev pub what_of_hex : FromHexError → What
what_of_hex OutOfMemory = Memory
what_of_hex error = Refused 30 None

-- the report of a refused message: an inlet that failed is a device
abbrev pub what_of : WireFault → What
what_of wire.Memory = Memory
what_of wire.Fault = Device
what_of (wire.WrongType found) = Refused 16 (Some found)
what_of (wire.BadState found) = Refused 19 (Some found)
what_of fault = Refused (wire_number fault) None

-- the report of bytes that are not a datagram: the fault at which reading stops
abbrev pub TellsDatagram : List ℕ → What → Type 0
TellsDatagram bytes what = (fault : WireFault) × (whole_datagram bytes ≡ Err fault)
    × (what ≡ what_of fault)
