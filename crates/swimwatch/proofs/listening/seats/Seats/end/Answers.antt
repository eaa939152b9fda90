use Rattle.std.proofs.Common.{◌≡◌, ◌<◌, [], ◌∷◌, ◌++◌, length, rules, sym}
use Rattle.std.proofs.Math.Path.{subst}
use Rattle.swimwatch.specs.Seated.{EachEnded, EachHas, at_least_one}
use Rattle.swimwatch.specs.Viewed.{choice_in, first_view}
use Rattle.swimwatch.proofs.Flowing.{on_ok}
use Rattle.swimwatch.proofs.Seats.{some_begun, some_there}
use Rattle.swimwatch.proofs.listening.seats.Seats.end.Goals as goal
use Rattle.swimwatch.proofs.listening.seats.Seats.end.Goals.{then-is_empty+in_ok-begin, else-is_empty}

pub returns : goal.returns
returns c heard each =
    let s = choice_in c.args.self.now.setting in
    let first = first_view c.args.self.now.setting in
    let old = c.args.self.now.seats.items in
    let setting : c.args.self.now.setting ≡ c.if-is_empty.self.setting = elim c.if-is_empty.branch [
      | then-is_empty+in_ok-begin w ↦ search rules
      | else-is_empty w ↦ search rules
    ] in
    let some : EachHas s first (at_least_one heard) c.if-is_empty.self.seats.items = elim c.if-is_empty.branch [
      | then-is_empty+in_ok-begin w ↦ (
          let none : length old ≡ 0 = search rules in
          subst (λ x. EachHas s first (at_least_one heard) x.seats.items) (sym w.self-is)
          (some_begun s first heard old w.begin.new.self.seats.items each none (w.in_ok-begin.ensures.begins heard each)))
      | else-is_empty w ↦ (
          let more : 0 < length old = search rules in
          subst (λ x. EachHas s first (at_least_one heard) x.seats.items) (sym w.self-is) (some_there s first heard old each more))
    ] in
    on_ok c.end_each.result
    (λ h. subst (λ x. EachEnded (choice_in x) (first_view x) (at_least_one heard) c.end_each.new.self.seats.items) (sym setting) h)
    (c.end_each.ensures (at_least_one heard)
    (subst (λ x. EachHas (choice_in x) (first_view x) (at_least_one heard) c.if-is_empty.self.seats.items) setting some))
