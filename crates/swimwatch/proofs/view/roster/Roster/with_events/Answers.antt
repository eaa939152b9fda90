use Rattle.std.proofs.Common.{ℕ, List, rules, ap, ◌∙◌}
use Rattle.swimwatch.specs.Records.{BeginsWithState, claims_in}
use Rattle.swimwatch.specs.SerfState.{left_in}
use Rattle.swimwatch.specs.Rosters.{Members, with_left}
use Rattle.swimwatch.proofs.view.roster.Roster.with_events.Goals as goal

pub returns-clause-whole : goal.returns-clause-whole
returns-clause-whole c =
    let records = c.in-Some.read.records.items in
    let user = c.in-Some.read.user.items in
    let begins : BeginsWithState c.args.stream.now (claims_in records) user = search rules in (
      records,
      user,
      begins,
      c.note_left.ensures
          ∙ ap (λ (names : List (List ℕ)). with_left names c.in_ok-roster.roster) (c.in_ok-state.ensures.left ∙ ap left_in c.deref.ensures.value)
          ∙ ap (λ (ms : Members). with_left (left_in user) ms) c.in_ok-roster.ensures,
    )
