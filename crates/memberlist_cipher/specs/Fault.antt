-- The numbers of faults.
use Rattle.std.specs.Prelude.{ℕ}
use Rattle.memberlist_cipher.specs.declared.fault.CipherFault.{CipherFault}
use Rattle.memberlist_cipher.specs.declared.fault.CipherFault.TheVariants.{BadKey, TooLong, TooShort, WrongVersion}
use Rattle.memberlist_cipher.specs.declared.fault.CipherFault.TheVariants.{WrongTag, BadPadding, NotEncrypted, Trailing}
use Rattle.memberlist_cipher.specs.declared.fault.CipherFault.TheVariants.{Memory}

-- the number of a fault in reports
abbrev pub cipher_number : CipherFault → ℕ
cipher_number BadKey = 50
cipher_number TooLong = 51
cipher_number TooShort = 52
cipher_number WrongVersion = 53
cipher_number WrongTag = 54
cipher_number BadPadding = 55
cipher_number NotEncrypted = 56
cipher_number Trailing = 57
cipher_number Memory = 58
