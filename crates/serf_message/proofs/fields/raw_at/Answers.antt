use Rattle.std.proofs.Common.{sym, ap, ◌∙◌, arith}
use Rattle.serf_message.specs.Slots.{raw_or_empty}
use Rattle.serf_message.proofs.Slotting.{slot_seen}
use Rattle.serf_message.proofs.fields.raw_at.Goals as goal

pub returns : goal.returns
returns c = c.raw.ensures ∙ sym (ap raw_or_empty
    (slot_seen c.args.values.now c.args.place c.index-values-place.result (omega (arith, c.well_formed))))
