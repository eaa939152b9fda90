use Rattle.std.proofs.Common.{◌≡◌, None, Some, rules, sym, ap, ◌∙◌}
use Rattle.std.specs.BTreeMap.{is_at}
use Rattle.std.specs.Map.{set_value}
use Rattle.memberlist_view.specs.Rules.{name_cmp}
use Rattle.swimwatch.specs.declared.view.known.Known.{Known}
use Rattle.swimwatch.specs.Rosters.{Members, IsInOrder, left_at, said_of}
use Rattle.swimwatch.proofs.Rosters.{nobody_left, one_left}
use Rattle.swimwatch.proofs.view.roster.Roster.note_left_at.Goals as goal

pub returns-in_default : goal.returns-in_default
returns-in_default c =
    let es = c.self.inside.members.entries in
    let none : said_of es c.args.name.now ≡ None = search rules in
    let same : es ≡ c.args.self.now = search rules in
    ap (λ m. m.entries) c.get_mut.follows.holds-at-none
    ∙ same ∙ sym (nobody_left c.args.self.now c.args.name.now (ap (λ (ms : Members). said_of ms c.args.name.now) (sym same) ∙ none))

pub returns : goal.returns
returns c =
    let es = c.self.inside.members.entries in
    let name = c.args.name.now in
    let sorted : IsInOrder es = search rules in
    let there : said_of es name ≡ Some c.in-Some.known.now = search rules in
    let same : es ≡ c.args.self.now = search rules in
    (c.get_mut.follows.holds c.note_left.new.self).0
    ∙ ap (λ (k : Known). set_value (is_at (name_cmp name)) es k) c.note_left.ensures.left
    ∙ one_left es name c.in-Some.known.now sorted there
    ∙ ap (λ (ms : Members). left_at ms name) same
