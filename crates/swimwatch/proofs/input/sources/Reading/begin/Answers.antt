use Rattle.std.proofs.Common.{inl, inr, subst}
use Rattle.swimwatch.specs.Yielded.{Finds, IsCutStart, IsStart}
use Rattle.swimwatch.proofs.input.sources.Reading.begin.Goals as goal

pub returns-in-Err-Cut : goal.returns-in-Err-Cut
returns-in-Err-Cut g c =
    let at = g.I.Inlet.seen c.begin.new.inlet.inlet in
    let cut = rw c.in-Err-Cut.field-0-is at c.in-Err-Cut.ensures.exact in
    (at, inl (subst (λ i. IsCutStart (g.I.Inlet.seen i) at) c.new-inlet.ensures cut))

pub returns-in_default : goal.returns-in_default
returns-in_default g c =
    let at = g.I.Inlet.seen c.begin.new.inlet.inlet in
    let next = c.next_record.new.reader in
    let to = g.I.Inlet.seen c.next_record.new.inlet.inlet in
    let bytes = c.next_record.new.bytes.items in (
      at,
      inr (
        c.in-Ok.reader,
        next,
        to,
        bytes,
        subst (λ i. IsStart (g.I.Inlet.seen i) at c.in-Ok.reader) c.new-inlet.ensures c.in-Ok.ensures.exact,
        subst (λ o. Finds c.in-Ok.reader at next to bytes o) c.in_default.is c.in_ok-record.ensures,
      ),
    )
