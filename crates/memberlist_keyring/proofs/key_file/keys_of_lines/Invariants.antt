use Rattle.std.proofs.Common.{map}
use Rattle.memberlist_keyring.specs.KeyFile.{HoldInOrder, LineHolds}
use Rattle.memberlist_keyring.proofs.key_file.keys_of_lines.Given as goal

abbrev pub invariant-loop-i : goal.invariant-loop-i
invariant-loop-i l =
    (goal.iterator-loop-i).can_next l.i-iterator ×
    (goal.iterator-loop-i).is_finite l.i-iterator ×
    HoldInOrder LineHolds (map (λ p. p.1.now) l.yielded) l.keys.items
