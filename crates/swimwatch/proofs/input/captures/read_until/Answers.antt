use Rattle.std.proofs.Common.{◌≡◌, [], inl, inr, refl, sym, ap, subst, arith, ◌∙◌}
use Rattle.swimwatch.specs.Seated.{EachHas}
use Rattle.swimwatch.specs.Viewed.{choice_in, first_view}
use Rattle.swimwatch.specs.Yielded.{HearsSources, Stops}
use Rattle.swimwatch.specs.Yielded.HearsSources.{none}
use Rattle.swimwatch.proofs.Waiting.{all_wait}
use Rattle.swimwatch.proofs.Yielding.{reads_more}
use Rattle.swimwatch.proofs.input.captures.read_until.Goals as goal

pub loop-init : goal.loop-init
loop-init c = (refl, λ heard each. ([], heard, refl, none, each))

pub loop-preserved : goal.loop-preserved
loop-preserved c = (
  c.in_ok-hear_next.ensures.setting ∙ c.loop.invariant.0,
  λ heard each.
      let h = c.loop.invariant.1 heard each in
      let hears = c.in_ok-hear_next.ensures.hears h.1 h.4 in
      let one = rw c.if-not-branch.false at hears in
      reads_more c.args.views.now.seats.setting.window c.loop.views.seats.setting.window c.args.time c.args.sources.now heard h.0
      c.loop.sources h.1 c.hear_next.new.sources c.hear_next.new.views c.loop.counter (ap (λ s. s.window) c.loop.invariant.0) h.2 h.3 one,
)

pub returns-then-not-branch-clause-hears : goal.returns-then-not-branch-clause-hears
returns-then-not-branch-clause-hears c heard each =
    let window = c.args.views.now.seats.setting.window in
    let time = c.args.time in
    let h = c.loop.invariant.1 heard each in
    let stays = rw c.if-not-branch.true at c.in_ok-hear_next.ensures.stays in
    let stops = rw c.if-not-branch.true at c.in_ok-hear_next.ensures.stops in
    let hears = subst (λ s. HearsSources window time c.args.sources.now heard h.0 s h.1) (sym stays.0) h.3 in (
      h.0,
      h.1,
      hears,
      all_wait window time c.args.sources.now heard h.0 c.hear_next.new.sources h.1 hears,
      subst (λ s. EachHas (choice_in s.setting) (first_view s.setting) h.1 s.seats.items) (sym stays.1) h.4,
      inl (subst (λ s. Stops window time s) (sym stays.0)
          (subst (λ s. Stops s.window time c.loop.sources) c.loop.invariant.0 stops)),
    )

pub returns-clause-hears : goal.returns-clause-hears
returns-clause-hears c heard each =
    let h = c.loop.invariant.1 heard each in
    let done : c.loop.counter ≡ 18446744073709551615 = omega arith in
    let all = all_wait c.args.views.now.seats.setting.window c.args.time c.args.sources.now heard h.0 c.loop.sources h.1 h.3 in
    (h.0, h.1, h.3, all, h.4, inr (h.2 ∙ done))
