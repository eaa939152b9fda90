use Rattle.std.proofs.Common.{◌≡◌, ◌<◌, length}
use Rattle.std.specs.List.{All}
use Rattle.member_tests.proofs.tests.parts_of.Given as goal

abbrev pub invariant-loop-len : goal.invariant-loop-len
invariant-loop-len l = (length l.parts.items ≡ l.len-index) × All (λ p. length p.items < 65536) l.parts.items
