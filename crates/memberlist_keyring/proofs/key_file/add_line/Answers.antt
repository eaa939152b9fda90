use Rattle.std.proofs.Common.{◌≡◌, inl, [], length, refl, sym, ◌∙◌}
use Rattle.std.proofs.lemmas.Bool.{eqb-true}
use Rattle.std.proofs.lemmas.List.{append-nil}
use Rattle.memberlist_keyring.proofs.Holding.{empty}
use Rattle.memberlist_keyring.proofs.key_file.add_line.Goals as goal

pub returns-then-is_empty-clause-adds : goal.returns-then-is_empty-clause-adds
returns-then-is_empty-clause-adds c =
    let none : length c.content_of-content.result.now ≡ 0 = eqb-true _ _ (sym c.is_empty.ensures ∙ c.if-is_empty.true) in
    ([], inl (sym c.content_of-content.ensures ∙ empty _ none, refl), sym (append-nil _))
