use Rattle.std.proofs.Common.{◌≡◌, length}
use Rattle.capture.specs.Packets.{behind_extensions}
use Rattle.capture.proofs.network.read_extensions.Given as goal

abbrev pub invariant-loop-rest : goal.invariant-loop-rest
invariant-loop-rest l = behind_extensions l.fn.next l.body ≡ behind_extensions l.next l.rest

abbrev pub decreases-loop-rest : goal.decreases-loop-rest
decreases-loop-rest l = length l.rest
