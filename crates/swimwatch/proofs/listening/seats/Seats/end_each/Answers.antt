use Rattle.std.proofs.Common.{◌≡◌, ◌<◌, ◌≤◌, length, refl, sym, rules, arith, ◌∙◌}
use Rattle.std.proofs.Math.Path.{subst}
use Rattle.std.proofs.lemmas.List.{length-set}
use Rattle.swimwatch.specs.Viewed.{HasEnded, HasHeard, choice_in, first_view}
use Rattle.swimwatch.proofs.Seats.{all_ended, none_ended, one_more}
use Rattle.swimwatch.proofs.listening.seats.Seats.end_each.Goals as goal

pub loop-index-init : goal.loop-index-init
loop-index-init c = (
  refl,
  refl,
  λ heard. none_ended (choice_in c.args.self.now.setting) (first_view c.args.self.now.setting) heard c.args.self.now.seats.items,
)

pub loop-index-preserved : goal.loop-index-preserved
loop-index-preserved c =
    let items = c.loop-index.self.seats.items in
    let i = c.loop-index.index in
    let s = choice_in c.args.self.now.setting in
    let first = first_view c.args.self.now.setting in
    let same = c.loop-index.invariant.0 in
    let old = c.in-Some.seat.now in
    let new = c.end.new.self in
    let within : i < length items = search rules in (
      same,
      length-set items i new ∙ c.loop-index.invariant.1,
      λ heard each. one_more s first i heard items old new within (c.loop-index.invariant.2 heard each)
          (λ records has. subst (λ x. HasEnded (choice_in x) first records new) same
          (c.in_ok-end-in-Some.ensures first records
          (subst (λ x. HasHeard (choice_in x) first records old) (sym same)
          (subst (HasHeard s first records) (sym c.in-Some.ensures.value) has)))),
    )

pub returns-after-loop-index : goal.returns-after-loop-index
returns-after-loop-index c heard each =
    let past : length c.loop-index.self.seats.items ≤ c.loop-index.index = omega (arith, c.loop-index.invariant.1) in
    all_ended (choice_in c.args.self.now.setting) (first_view c.args.self.now.setting) c.loop-index.index heard c.loop-index.self.seats.items
    past (c.loop-index.invariant.2 heard each)
