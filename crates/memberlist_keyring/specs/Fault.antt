-- The numbers of faults.
use Rattle.std.specs.Prelude.{ℕ}
use Rattle.memberlist_keyring.specs.declared.fault.KeyFileFault.{KeyFileFault}
use Rattle.memberlist_keyring.specs.declared.fault.KeyFileFault.TheVariants.{Line, Item, NotList, Memory}

-- the number that identifies a fault in reports
abbrev pub key_file_number : KeyFileFault → ℕ
key_file_number (Line number) = 50
key_file_number (Item number) = 50
key_file_number NotList = 50
key_file_number Memory = 58
