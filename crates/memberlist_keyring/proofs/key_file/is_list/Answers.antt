use Rattle.std.proofs.Common.{arith}
use Rattle.memberlist_keyring.proofs.Files.{first_byte, blank_to_end}
use Rattle.memberlist_keyring.proofs.key_file.is_list.Goals as goal

pub returns-then-not-is_blank : goal.returns-then-not-is_blank
returns-then-not-is_blank c = first_byte c.args.text.now c.loop-byte.byte-index
    (omega arith) c.loop-byte.invariant c.if-not-is_blank.ensures

pub returns : goal.returns
returns c = blank_to_end c.args.text.now c.loop-byte.byte-index (omega arith) c.loop-byte.invariant
