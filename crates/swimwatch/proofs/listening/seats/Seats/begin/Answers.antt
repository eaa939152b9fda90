use Rattle.std.proofs.Common.{◌≡◌, [], ◌∷◌, ◌++◌, ap, sym, rules}
use Rattle.std.proofs.Math.Path.{subst}
use Rattle.swimwatch.specs.Seated.{EachHas}
use Rattle.swimwatch.specs.Viewed.{HasHeard, choice_in, first_view}
use Rattle.swimwatch.proofs.Seats.{added}
use Rattle.swimwatch.proofs.listening.seats.Seats.begin.Goals as goal

pub returns-clause-begins : goal.returns-clause-begins
returns-clause-begins c heard each =
    let old = c.args.self.now.seats.items in
    let s = choice_in c.args.self.now.setting in
    let first = first_view c.args.self.now.setting in
    let seat = c.in_ok-seat.seat in
    let begins : HasHeard s first [] seat =
    subst (λ x. HasHeard (choice_in x) (first_view x) [] seat) c.in_ok-name.ensures.setting c.in_ok-seat.ensures in
    let is : old ++ seat ∷ [] ≡ c.push.new.self.items = search rules in
    subst (EachHas s first (heard ++ [] ∷ [])) is (added s first heard old seat each begins)
