use Rattle.std.proofs.Common.{◌≡◌, [], ◌∷◌, ◌++◌, length, rules, ap, sym}
use Rattle.std.proofs.Math.Path.{subst}
use Rattle.swimwatch.specs.Seated.{EachHas}
use Rattle.swimwatch.specs.Viewed.{choice_in, first_view}
use Rattle.swimwatch.proofs.Seats.{begun}
use Rattle.swimwatch.proofs.listening.seats.Seats.view_of.Goals as goal

pub returns-clause-has : goal.returns-clause-has
returns-clause-has c heard each =
    let s = choice_in c.args.self.now.setting in
    let first = first_view c.args.self.now.setting in
    let setting = c.in_ok-view.ensures.setting in
    let seats = ap (λ v. v.items) c.in_ok-view.ensures.seats in
    let moved = subst (λ x. EachHas (choice_in x) (first_view x) heard c.place_of.new.self.seats.items) (sym setting)
    (subst (EachHas s first heard) (sym seats) each) in
    let more = subst (λ x. EachHas (choice_in x) (first_view x) (heard ++ [] ∷ []) c.begin.new.self.seats.items) setting
    (c.in_ok-begin.ensures.begins heard moved) in
    let at : c.len-count.result ≡ length c.args.self.now.seats.items = search rules in
    begun s first heard c.args.self.now.seats.items c.begin.new.self.seats.items c.len-count.result each at more
