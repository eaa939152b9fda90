use Rattle.std.proofs.Common.{sym, ◌∙◌}
use Rattle.memberlist_cipher.proofs.Prepared.{front_is}
use Rattle.memberlist_cipher.proofs.key.Key.bytes.Goals as goal

pub slice_bounds-result-count : goal.slice_bounds-result-count
slice_bounds-result-count c =
    (front_is c.args.self.now _ c.deref.result.now _ _ c.self.view_is c.self.invariant c.deref.ensures.value
    (c.len.ensures ∙ sym c.deref.ensures.len)).1

pub returns : goal.returns
returns c =
    (front_is c.args.self.now _ c.deref.result.now _ _ c.self.view_is c.self.invariant c.deref.ensures.value
    (c.len.ensures ∙ sym c.deref.ensures.len)).0
