-- The numbers that reports use for faults.
use Rattle.std.specs.Prelude.{ℕ}
use Rattle.swim_table.specs.declared.fault.EncodeFault.{EncodeFault}
use Rattle.swim_table.specs.declared.fault.EncodeFault.TheVariants as encode
use Rattle.swim_table.specs.declared.fault.RefuteFault.{RefuteFault}
use Rattle.swim_table.specs.declared.fault.RefuteFault.TheVariants as refute

-- the number of the fault if a dump is refused
abbrev pub encode_number : EncodeFault → ℕ
encode_number encode.TooManyRecords = 23
encode_number encode.Memory = 10

-- the number of the fault if a refutation is refused
abbrev pub refute_number : RefuteFault → ℕ
refute_number refute.Exhausted = 24
refute_number (refute.Gone inc) = 25
refute_number refute.Memory = 10
