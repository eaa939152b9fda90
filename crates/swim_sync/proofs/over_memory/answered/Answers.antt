use Rattle.std.proofs.Common.{Some, sym, subst}
use Rattle.swim_sync.specs.Exchanging.{IsAnswerRefused}
use Rattle.swim_sync.specs.OverMemory.{IsOffer}
use Rattle.swim_sync.proofs.OverMemory.{takes_offer, offer_lacks}
use Rattle.swim_sync.proofs.over_memory.answered.Goals as goal

pub returns-in-Ok-clause-takes : goal.returns-in-Ok-clause-takes
returns-in-Ok-clause-takes c =
    λ other is.
    takes_offer c.new.result c.answer.new.inlet c.args.table.now c.answer.new.table other c.in-Ok.field-0 c.in-Ok.ensures.takes
    (subst (IsOffer other) (sym c.new.ensures) is)

pub unreachable-requires : goal.unreachable-requires
unreachable-requires c =
    let refused =
    subst
    (λ fault. IsAnswerRefused (record { coming = Some c.new.result; faults = 0 })
    (record { coming = Some c.answer.new.inlet; faults = 0 }) (record { written = Some c.new-lost.result; faults = 0 })
    (record { written = Some c.answer.new.outlet; faults = 0 }) c.args.table.now fault)
    c.in-Err-Wire.field-0-is c.in-Err-Wire.ensures.refused in
    offer_lacks c.new.result c.answer.new.inlet c.requires.0 c.in-Err-Wire.field-0-0 refused.0
    (subst (IsOffer c.requires.0) (sym c.new.ensures) c.requires.1)
