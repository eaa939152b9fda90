use Rattle.std.proofs.Common.{◌≡◌, arith}
use Rattle.memberlist_cipher.specs.declared.fault.CipherFault.TheVariants.{Memory}
use Rattle.memberlist_keyring.proofs.Trying.{IsFirst-at, Tried-more, Tried-all}
use Rattle.memberlist_keyring.proofs.trial.try_keys.Goals as goal

pub returns-in-Ok-clause-opens : goal.returns-in-Ok-clause-opens
returns-in-Ok-clause-opens g c =
    IsFirst-at _ _ c.args.keys.now c.loop-key.key-index c.loop-key.last c.key-item.result c.in-Ok.message.items (omega arith)
    c.key-item.is c.loop-key.invariant
    c.in-Ok.ensures.opens

pub loop-key-preserved : goal.loop-key-preserved
loop-key-preserved g c =
    Tried-more _ _ c.args.keys.now c.loop-key.key-index c.loop-key.last _ c.key-item.result (omega arith)
    c.key-item.is c.loop-key.invariant c.in-Err.ensures.refuses c.in_default.not-Memory
    (c.in-Err.ensures.lacks c.in_default.not-Memory)

pub returns-clause-lacks : goal.returns-clause-lacks
returns-clause-lacks g c other = Tried-all _ _ c.args.keys.now c.loop-key.key-index c.loop-key.last (omega arith) c.loop-key.invariant

pub returns-clause-memory : goal.returns-clause-memory
returns-clause-memory g c = λ is. absurd (c.loop-key.invariant.other (let e : c.loop-key.last ≡ Memory = cc in e))
