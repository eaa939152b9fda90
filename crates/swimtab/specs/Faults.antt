-- What is said of an exchange that is refused, and of an event that does not happen.
use Rattle.std.specs.Prelude.{None}
use Rattle.swim_sync.specs.declared.fault.SyncFault.{SyncFault}
use Rattle.swim_sync.specs.declared.fault.SyncFault.TheVariants as sync
use Rattle.swim_sync.specs.declared.stop.Why.{Why}
use Rattle.swim_sync.specs.declared.stop.Why.TheVariants as why
use Rattle.swim_program.specs.declared.report.What.{What}
use Rattle.swim_program.specs.declared.report.What.TheVariants.{Refused, Device, Memory}
use Rattle.swim_program.specs.Report.{what_of}

-- what is said of an exchange that is refused: an outlet that failed is a device
abbrev pub what_of_sync : SyncFault → What
what_of_sync (sync.Wire fault) = what_of fault
what_of_sync sync.TooManyRecords = Refused 23 None
what_of_sync sync.Push = Device
what_of_sync sync.Memory = Memory

-- the fault of a stop
abbrev pub what_of_why : Why → What
what_of_why why.NoSuchNode = Refused 26 None
what_of_why why.SameNode = Refused 27 None
what_of_why why.TooManyRecords = Refused 23 None
what_of_why why.Memory = Memory
