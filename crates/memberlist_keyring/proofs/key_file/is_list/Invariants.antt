use Rattle.std.proofs.Common.{take}
use Rattle.std.specs.List.{All}
use Rattle.memberlist_keyring.specs.KeyFile.{IsBlank}
use Rattle.memberlist_keyring.proofs.key_file.is_list.Given as goal

abbrev pub invariant-loop-byte : goal.invariant-loop-byte
invariant-loop-byte l = All IsBlank (take l.byte-index l.text)
