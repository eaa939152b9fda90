use Rattle.std.proofs.Common.{◌≡◌, length}
use Rattle.memberlist_cipher.specs.Gcm.{hash}
use Rattle.memberlist_cipher.proofs.ghash.hash.Given as goal

abbrev pub invariant-loop-rest : goal.invariant-loop-rest
invariant-loop-rest l = hash l.ghash_key l.y l.rest ≡ hash l.ghash_key l.start l.bytes

abbrev pub decreases-loop-rest : goal.decreases-loop-rest
decreases-loop-rest l = length l.rest
