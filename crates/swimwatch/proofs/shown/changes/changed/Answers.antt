use Rattle.std.proofs.Common.{◌≡◌, ◌||◌, Bool, false, is_some, ap, ◌∙◌}
use Rattle.std.specs.BTreeMap.{get, is_at}
use Rattle.std.specs.Map.{lookup}
use Rattle.memberlist_view.specs.Rules.{name_cmp}
use Rattle.swimwatch.specs.Rosters.{is_new, is_other_now, said_of}
use Rattle.swimwatch.proofs.Changes.{both_kinds}
use Rattle.swimwatch.proofs.shown.changes.changed.Goals as goal

pub returns : goal.returns
returns c name =
    let was = said_of c.args.before.now name in
    let is = said_of c.args.after.now name in
    let none : is_some (get name_cmp c.new-names.result name) ≡ false = ap (λ es. is_some (lookup (is_at (name_cmp name)) es)) c.new-names.ensures.empty in
    let first = c.in_ok-note_changed.ensures name ∙ ap (λ (b : Bool). b || is_other_now was is) none in
    c.in_ok-note_new.ensures name ∙ ap (λ (b : Bool). b || is_new was is) first ∙ both_kinds was is
