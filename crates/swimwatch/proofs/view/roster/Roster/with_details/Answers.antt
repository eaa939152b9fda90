use Rattle.std.proofs.Common.{◌≡◌, rules, ap, ◌∙◌}
use Rattle.std.specs.BTreeMap.{insert_entry}
use Rattle.memberlist_view.specs.Rules.{name_cmp}
use Rattle.swimwatch.specs.declared.view.known.Known.{Known}
use Rattle.swimwatch.specs.Rosters.{Members, IsInOrder}
use Rattle.swimwatch.proofs.Rosters.{insert_over}
use Rattle.swimwatch.proofs.view.roster.Roster.with_details.Goals as goal

pub returns-clause-others : goal.returns-clause-others
returns-clause-others c known =
    let left : Known = record c.in-Some.noted.now { details = c.take.new.self } in
    let es = c.self.inside.members.entries in
    let sorted : IsInOrder es = search rules in
    let same : es ≡ c.args.self.now = search rules in
    ap (λ (ms : Members). insert_entry name_cmp ms c.args.name.now known) (c.get_mut.follows.holds left).0
    ∙ insert_over es c.args.name.now known left sorted
    ∙ ap (λ (ms : Members). insert_entry name_cmp ms c.args.name.now known) same
