-- The numbers of faults, and how faults of the layers below map to faults here.
use Rattle.std.specs.Prelude.{ℕ}
use Rattle.swim_claim.specs.declared.fault.ClaimFault.{ClaimFault}
use Rattle.swim_claim.specs.declared.fault.ClaimFault.TheVariants as claims
use Rattle.swim_pack.specs.declared.fault.PackFault.{PackFault}
use Rattle.swim_pack.specs.declared.fault.PackFault.TheVariants as packs
use Rattle.swim_pack.specs.declared.fault.PullFault.{PullFault}
use Rattle.swim_pack.specs.declared.fault.PullFault.TheVariants as pulls
use Rattle.swim_wire.specs.declared.fault.WireFault.{WireFault}
use Rattle.swim_wire.specs.declared.fault.WireFault.TheVariants.{Ended, NotUnsigned, OutOfRange, NotBool, NotRaw}
use Rattle.swim_wire.specs.declared.fault.WireFault.TheVariants.{TooLong, NotMap, MapCount, Fault, Memory, NameEmpty}
use Rattle.swim_wire.specs.declared.fault.WireFault.TheVariants.{BadAddress, BadVersions, WrongType, UnknownKey}
use Rattle.swim_wire.specs.declared.fault.WireFault.TheVariants.{DuplicateKey, BadState, TooManyNodes, UserTooLong}
use Rattle.swim_wire.specs.declared.fault.WireFault.TheVariants.{Trailing}

-- the number that identifies a fault in reports
abbrev pub wire_number : WireFault → ℕ
wire_number Ended = 1
wire_number NotUnsigned = 2
wire_number OutOfRange = 3
wire_number NotBool = 4
wire_number NotRaw = 5
wire_number TooLong = 6
wire_number NotMap = 7
wire_number MapCount = 8
wire_number Fault = 9
wire_number Memory = 10
wire_number NameEmpty = 11
wire_number BadAddress = 13
wire_number BadVersions = 15
wire_number (WrongType found) = 16
wire_number UnknownKey = 17
wire_number DuplicateKey = 18
wire_number (BadState found) = 19
wire_number TooManyNodes = 20
wire_number UserTooLong = 21
wire_number Trailing = 22

-- a value that is not MessagePack of the expected kind
abbrev pub fault_of_pack : PackFault → WireFault
fault_of_pack packs.Ended = Ended
fault_of_pack packs.NotUnsigned = NotUnsigned
fault_of_pack packs.OutOfRange = OutOfRange
fault_of_pack packs.NotBool = NotBool
fault_of_pack packs.NotRaw = NotRaw
fault_of_pack packs.TooLong = TooLong
fault_of_pack packs.NotMap = NotMap
fault_of_pack packs.MapCount = MapCount
fault_of_pack packs.Fault = Fault
fault_of_pack packs.Memory = Memory

-- a key that is not MessagePack text; one that is too long is not in the layout
abbrev pub fault_of_key : PackFault → WireFault
fault_of_key packs.TooLong = UnknownKey
fault_of_key fault = fault_of_pack fault

-- bytes that an inlet does not return
abbrev pub fault_of_pull : PullFault → WireFault
fault_of_pull pulls.Ended = Ended
fault_of_pull pulls.Fault = Fault

-- parts of a claim that are refused
abbrev pub fault_of_claim : ClaimFault → WireFault
fault_of_claim claims.NameEmpty = NameEmpty
fault_of_claim claims.NameTooLong = TooLong
fault_of_claim claims.BadAddress = BadAddress
fault_of_claim claims.MetaTooLong = TooLong
fault_of_claim claims.BadVersions = BadVersions
