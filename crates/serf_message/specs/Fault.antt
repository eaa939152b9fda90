-- How faults of the layer below map to faults here.
use Rattle.swim_pack.specs.declared.fault.PackFault.{PackFault}
use Rattle.swim_pack.specs.declared.fault.PackFault.TheVariants as packs
use Rattle.serf_message.specs.declared.fault.SerfFault.{SerfFault}
use Rattle.serf_message.specs.declared.fault.SerfFault.TheVariants.{Ended, NotNumber, OutOfRange, NotBool, NotRaw, NotMap, Memory}

-- a value that is not MessagePack of the expected kind
abbrev pub fault_of_pack : PackFault → SerfFault
fault_of_pack packs.Ended = Ended
fault_of_pack packs.NotUnsigned = NotNumber
fault_of_pack packs.OutOfRange = OutOfRange
fault_of_pack packs.NotBool = NotBool
fault_of_pack packs.NotRaw = NotRaw
fault_of_pack packs.TooLong = OutOfRange
fault_of_pack packs.NotMap = NotMap
fault_of_pack packs.MapCount = OutOfRange
fault_of_pack packs.Fault = Ended
fault_of_pack packs.Memory = Memory
