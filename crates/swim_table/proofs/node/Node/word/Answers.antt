use Rattle.std.proofs.Common.{◌∙◌, Some, ap, sym, refl}
use Rattle.swim_table.proofs.Refuting.{entry_found, due_by_suspect, due_by_alive, at_rest_alive}
use Rattle.swim_table.proofs.node.Node.word.Goals as goal

pub returns-in-Suspect-clause-word : goal.returns-in-Suspect-clause-word
returns-in-Suspect-clause-word c =
    let found = entry_found c.args.self.now _ _ _ c.table.ensures.table
    (c.bytes.ensures.bytes ∙ ap (λ n. n.name) c.self.view_is) c.in-Some.ensures in
    due_by_suspect c.args.self.now c.in-Some.entry.now c.inc-inc.result c.table.ensures.legal found c.in-Suspect.ensures c.inc-inc.ensures

pub returns-then-has_home_of-clause-word : goal.returns-then-has_home_of-clause-word
returns-then-has_home_of-clause-word c =
    let found = entry_found c.args.self.now _ _ _ c.table.ensures.table
    (c.bytes.ensures.bytes ∙ ap (λ n. n.name) c.self.view_is) c.in-Some.ensures in
    at_rest_alive c.args.self.now c.in-Some.entry.now c.table.ensures.legal found c.in-Alive.ensures
    (c.if-has_home_of.ensures.0 refl ∙ ap (λ n. Some n.details) c.self.view_is)

pub returns-else-has_home_of-clause-word : goal.returns-else-has_home_of-clause-word
returns-else-has_home_of-clause-word c =
    let found = entry_found c.args.self.now _ _ _ c.table.ensures.table
    (c.bytes.ensures.bytes ∙ ap (λ n. n.name) c.self.view_is) c.in-Some.ensures in
    due_by_alive c.args.self.now c.in-Some.entry.now c.inc-inc.result c.table.ensures.legal found c.in-Alive.ensures
    (λ own. let yes = c.if-has_home_of.ensures.1 (own ∙ sym (ap (λ n. Some n.details) c.self.view_is)) in absurd cc)
    c.inc-inc.ensures
