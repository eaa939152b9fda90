use Rattle.std.proofs.Common.{◌∙◌, ap, slice_get}
use Rattle.swim_table.specs.Table.{after}
use Rattle.swim_table.proofs.After.{after_gap, after_at}
use Rattle.tiered_vec.specs.Tiers.{items}
use Rattle.swim_table.proofs.table.Table.after.Goals as goal

pub returns-in-Ok : goal.returns-in-Ok
returns-in-Ok c =
    c.get_from.ensures
    ∙ ap (slice_get (items c.self.inside.entries)) c.after.ensures.index
    ∙ after_at _ _ _ c.self.invariant.own.ascending c.in-Ok.ensures.found
    ∙ ap (λ t. after t c.args.name.now) c.self.view_is

pub returns-in-Err : goal.returns-in-Err
returns-in-Err c =
    c.get_from-in-Err.ensures ∙ after_gap _ _ _ c.in-Err.ensures.absent ∙ ap (λ t. after t c.args.name.now) c.self.view_is
