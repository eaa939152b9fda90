use Rattle.std.proofs.Common.{◌≡◌, ◌∙◌, List, ◌++◌, ap, subst}
use Rattle.swim_claim.specs.declared.claim.Claim.{Claim}
use Rattle.swim_table.specs.Join.{Join}
use Rattle.swim_table.specs.News.{AreChanges}
use Rattle.swim_table.specs.Table.{Entries, TableOf}
use Rattle.swim_c.proofs.Noting.{joined_tells, named_tells, noted_with}
use Rattle.swim_c.proofs.watching.join_noted.Goals as goal

pub returns-clause-joined : goal.returns-clause-joined
returns-clause-joined c =
    subst (λ (t : Entries). (claims others : List Claim) → TableOf t claims → TableOf c.args.other others
    → TableOf c.join_noting.new.self (claims ++ others))
    c.table_mut.ensures.table c.in_ok-join_noting.ensures.all

pub returns-clause-news : goal.returns-clause-news
returns-clause-news c =
    let before = c.args.node.now.table in
    let other = c.args.other in
    let after : c.join_noting.new.self ≡ Join before other =
    c.in_ok-join_noting.ensures.join ∙ ap (λ (t : Entries). Join t other) c.table_mut.ensures.table in
    let changes : AreChanges before (Join before other) c.in_ok-names.names =
    subst (λ (t : Entries). AreChanges t (Join t other) c.in_ok-names.names) c.table.ensures.table c.in_ok-names.ensures in
    joined_tells _ before c.join_noting.new.self other after
    (named_tells c.is_empty-any.result before other c.in_ok-names.names c.table.ensures.legal changes c.is_empty-any.ensures)

pub returns-clause-noted : goal.returns-clause-noted
returns-clause-noted c =
    let before = c.args.node.now.table in
    let other = c.args.other in
    let after : c.join_noting.new.self ≡ Join before other =
    c.in_ok-join_noting.ensures.join ∙ ap (λ (t : Entries). Join t other) c.table_mut.ensures.table in
    let changes : AreChanges before (Join before other) c.in_ok-names.names =
    subst (λ (t : Entries). AreChanges t (Join t other) c.in_ok-names.names) c.table.ensures.table c.in_ok-names.ensures in
    noted_with c.args.noted.now c.join_noting.new.noted before c.join_noting.new.self other c.in_ok-names.names
    c.len.ensures.legal c.len-2.ensures.legal c.in_ok-join_noting.ensures.noted after changes
