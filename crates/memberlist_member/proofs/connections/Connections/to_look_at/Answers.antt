-- What is looked at is at the place of the first to look at.
use Rattle.std.proofs.Common.{◌≡◌, true, sym, subst, ◌∙◌, ap, Some, set}
use Rattle.std.specs.Bool.{OnTrue}
use Rattle.std.specs.Option.{option_map}
use Rattle.memberlist_member.specs.declared.connections.Connection.{Connection}
use Rattle.memberlist_member.specs.Connecting.{looked_at, looks_now}
use Rattle.memberlist_member.proofs.Taking.{at_place, no_place}
use Rattle.memberlist_member.proofs.connections.Connections.to_look_at.Goals as goal

pub returns-in_err-index-clause-which : goal.returns-in_err-index-clause-which
returns-in_err-index-clause-which c = c.from_residual.ensures ∙ ap (option_map (λ (c' : Connection). c'.conn))
    (sym (no_place (looks_now c.args.now) c.args.self.now.list.items (sym c.first_to_look_at.ensures.first ∙ c.in_err-index.was)).missing)

pub returns-in_err-index-clause-looked : goal.returns-in_err-index-clause-looked
returns-in_err-index-clause-looked c =
    sym ((no_place (looks_now c.args.now) c.args.self.now.list.items (sym c.first_to_look_at.ensures.first ∙ c.in_err-index.was)).same looked_at)

pub returns-clause-which : goal.returns-clause-which
returns-clause-which c =
    let each = c.index_mut-each.result.now in
    let found = at_place (looks_now c.args.now) c.args.self.now.list.items c.in_ok-index.index each (sym c.first_to_look_at.ensures.first ∙ c.in_ok-index.was) in
    let yes : c.looks_again.result ≡ true = c.looks_again.ensures.looks ∙ ap (looks_now c.args.now) c.index_mut-each.ensures.value ∙ found.passes in
    let after : c.looks_again.new.self ≡ looked_at each =
    subst (λ b. OnTrue b (c.looks_again.new.self ≡ looked_at each)) yes c.looks_again.ensures.looked in
    ap (λ (c' : Connection). Some c'.conn) after
    ∙ ap (λ (c' : Connection). Some c'.conn) c.index_mut-each.ensures.value
    ∙ ap (option_map (λ (c' : Connection). c'.conn)) (sym found.found)

pub returns-clause-looked : goal.returns-clause-looked
returns-clause-looked c =
    let each = c.index_mut-each.result.now in
    let xs = c.args.self.now.list.items in
    let found = at_place (looks_now c.args.now) xs c.in_ok-index.index each (sym c.first_to_look_at.ensures.first ∙ c.in_ok-index.was) in
    let yes : c.looks_again.result ≡ true = c.looks_again.ensures.looks ∙ ap (looks_now c.args.now) c.index_mut-each.ensures.value ∙ found.passes in
    let after : c.looks_again.new.self ≡ looked_at each =
    subst (λ b. OnTrue b (c.looks_again.new.self ≡ looked_at each)) yes c.looks_again.ensures.looked in
    ap (set xs c.in_ok-index.index) (after ∙ ap looked_at c.index_mut-each.ensures.value) ∙ found.changed looked_at
