-- Why words are refused.
use Rattle.std.specs.Prelude.{◌≡◌, ◌≢◌}
use Rattle.clap.specs.Kinds.{IsAmong, Kinds}
use Rattle.clap.specs.Values.{kind_of}
use Rattle.clap.specs.declared.error.Error.{Error}
use Rattle.clap.specs.declared.error.kind.ErrorKind.TheVariants.{OutOfMemory}
use Rattle.swim_program.specs.declared.words.WordFault.{WordFault}
use Rattle.swim_program.specs.declared.words.WordFault.TheVariants as fault

-- the words are refused with an error of one of these kinds, or because memory ran out
abbrev pub IsRefusal : Kinds → WordFault → Type 0
IsRefusal kinds (fault.Words error) = IsAmong (kind_of error) kinds
IsRefusal kinds fault.Memory = Unit {0}

-- the fault is that error, or out of memory
abbrev pub IsFaultOf : Error → WordFault → Type 0
IsFaultOf error (fault.Words other) = (other ≡ error) × (kind_of error ≢ OutOfMemory)
IsFaultOf error fault.Memory = kind_of error ≡ OutOfMemory
