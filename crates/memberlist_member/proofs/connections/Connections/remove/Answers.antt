-- What is taken out is at the place of the first with this number.
use Rattle.std.proofs.Common.{sym, ◌∙◌, ap, Some, subst}
use Rattle.std.specs.List.{remove}
use Rattle.std.specs.List.Sorted.{IsPermutation}
use Rattle.std.proofs.lemmas.List.Sorted.{IsPermutation-refl}
use Rattle.memberlist_member.specs.Connecting.{has_conn}
use Rattle.memberlist_member.proofs.Taking.{at_place, no_place, swapped}
use Rattle.memberlist_member.proofs.connections.Connections.remove.Goals as goal

pub returns-in_err-index-clause-which : goal.returns-in_err-index-clause-which
returns-in_err-index-clause-which c = c.from_residual.ensures
    ∙ sym (no_place (has_conn c.args.conn) c.args.self.now.list.items (sym c.index_of.ensures.first ∙ c.in_err-index.was)).missing

pub returns-in_err-index-clause-left : goal.returns-in_err-index-clause-left
returns-in_err-index-clause-left c =
    let xs = c.args.self.now.list.items in
    subst (λ ys. IsPermutation ys xs) (sym (no_place (has_conn c.args.conn) xs (sym c.index_of.ensures.first ∙ c.in_err-index.was)).left)
    (IsPermutation-refl xs)

pub returns-clause-which : goal.returns-clause-which
returns-clause-which c = ap Some c.swap_remove.ensures.value
    ∙ sym (at_place (has_conn c.args.conn) c.args.self.now.list.items c.in_ok-index.index c.swap_remove.result
    (sym c.index_of.ensures.first ∙ c.in_ok-index.was)).found

pub returns-clause-left : goal.returns-clause-left
returns-clause-left c =
    let xs = c.args.self.now.list.items in
    let found = at_place (has_conn c.args.conn) xs c.in_ok-index.index c.swap_remove.result (sym c.index_of.ensures.first ∙ c.in_ok-index.was) in
    subst (λ ys. IsPermutation ys c.swap_remove.new.self.items) found.left
    (subst (λ ys. IsPermutation (remove xs c.in_ok-index.index) ys) (sym c.swap_remove.ensures.items) (swapped xs c.in_ok-index.index c.swap_remove.result found.less))
