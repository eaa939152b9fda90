use Rattle.std.proofs.Common.{◌≡◌, length}
use Rattle.capture.specs.Packets.{behind_type}
use Rattle.capture.proofs.frame.read_type.Given as goal

abbrev pub invariant-loop-rest : goal.invariant-loop-rest
invariant-loop-rest l = behind_type l.bytes ≡ behind_type l.rest

abbrev pub decreases-loop-rest : goal.decreases-loop-rest
decreases-loop-rest l = length l.rest
