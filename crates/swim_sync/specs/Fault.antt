-- The numbers of faults, and how faults of the layers below map to faults here.
use Rattle.std.specs.Prelude.{ℕ}
use Rattle.swim_pack.specs.declared.fault.PushFault.{PushFault}
use Rattle.swim_pack.specs.declared.fault.PushFault.TheVariants as push
use Rattle.swim_table.specs.declared.fault.EncodeFault.{EncodeFault}
use Rattle.swim_table.specs.declared.fault.EncodeFault.TheVariants as encode
use Rattle.swim_wire.specs.declared.fault.WireFault.{WireFault}
use Rattle.swim_wire.specs.declared.fault.WireFault.TheVariants as wire
use Rattle.swim_wire.specs.Fault.{wire_number}
use Rattle.swim_sync.specs.declared.fault.SyncFault.{SyncFault}
use Rattle.swim_sync.specs.declared.fault.SyncFault.TheVariants.{Wire, TooManyRecords, Push, Memory}
use Rattle.swim_sync.specs.declared.stop.Why.{Why}
use Rattle.swim_sync.specs.declared.stop.Why.TheVariants as why

-- the number that identifies a fault in reports
abbrev pub sync_number : SyncFault → ℕ
sync_number (Wire fault) = wire_number fault
sync_number TooManyRecords = 23
sync_number Push = 29
sync_number Memory = 10

-- the number that identifies in reports why an event did not happen
abbrev pub why_number : Why → ℕ
why_number why.NoSuchNode = 26
why_number why.SameNode = 27
why_number why.TooManyRecords = 23
why_number why.Memory = 10

-- a stream that is refused; running out of memory is the same in every layer
abbrev pub fault_of_wire : WireFault → SyncFault
fault_of_wire wire.Memory = Memory
fault_of_wire fault = Wire fault

-- a table that has no dump
abbrev pub fault_of_encode : EncodeFault → SyncFault
fault_of_encode encode.TooManyRecords = TooManyRecords
fault_of_encode encode.Memory = Memory

-- bytes that an outlet refuses
abbrev pub fault_of_push : PushFault → SyncFault
fault_of_push push.Fault = Push
fault_of_push push.Memory = Memory
