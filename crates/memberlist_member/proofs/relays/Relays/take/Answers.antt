-- What is taken is at the place of the first with this number.
use Rattle.std.proofs.Common.{sym, ◌∙◌, ap, Some}
use Rattle.memberlist_member.specs.Relaying.{has_number}
use Rattle.memberlist_member.proofs.Taking.{at_place, no_place}
use Rattle.memberlist_member.proofs.relays.Relays.take.Goals as goal

pub returns-in_err-place-clause-which : goal.returns-in_err-place-clause-which
returns-in_err-place-clause-which c = c.from_residual.ensures
    ∙ sym (no_place (has_number c.args.seq) c.args.self.now.waiting.items (sym c.place_of.ensures ∙ c.in_err-place.was)).missing

pub returns-in_err-place-clause-left : goal.returns-in_err-place-clause-left
returns-in_err-place-clause-left c =
    sym (no_place (has_number c.args.seq) c.args.self.now.waiting.items (sym c.place_of.ensures ∙ c.in_err-place.was)).left

pub returns-clause-which : goal.returns-clause-which
returns-clause-which c = ap Some c.remove.ensures.value
    ∙ sym (at_place (has_number c.args.seq) c.args.self.now.waiting.items c.in_ok-place.place c.remove.result
    (sym c.place_of.ensures ∙ c.in_ok-place.was)).found

pub returns-clause-left : goal.returns-clause-left
returns-clause-left c = c.remove.ensures.items
    ∙ (at_place (has_number c.args.seq) c.args.self.now.waiting.items c.in_ok-place.place c.remove.result
    (sym c.place_of.ensures ∙ c.in_ok-place.was)).left
