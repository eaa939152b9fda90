use Rattle.std.proofs.Common.{take}
use Rattle.memberlist_keyring.proofs.Trying.{Tried}
use Rattle.memberlist_keyring.proofs.trial.try_keys.Given as goal

abbrev pub invariant-loop-key : goal.invariant-loop-key
invariant-loop-key g l =
    Tried (λ key message. g.E.Encrypted.encrypts key l.label l.rest message) (λ fault key. g.E.Encrypted.causes fault key l.label l.rest)
    (take l.key-index l.keys) l.last
