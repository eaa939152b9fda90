use Rattle.std.proofs.Common.{◌≡◌, sym, ap, subst, ◌∙◌}
use Rattle.swimwatch.specs.Yielded.{HasAlso, ReadsAt, Waits, turn_at}
use Rattle.swimwatch.proofs.Flowing.{on_ok}
use Rattle.swimwatch.proofs.Yielding.{open_at}
use Rattle.swimwatch.proofs.input.sources.Sources.read_on.Goals as goal
use Rattle.swimwatch.proofs.input.sources.Sources.read_on.Goals.{in-Some-2+in_ok-wait, in_default-2}

pub returns : goal.returns
returns c place r next =
    let old = c.args.self.now in
    let turn = c.in-Some.turn in
    let left = c.end.new.self.waiting.keys in
    let time = c.in_ok-time.field-0 in
    let read = c.next_time.new.self in
    let mid = c.match-branch-2.self in
    let first = c.in-Some.ensures.first in
    let found = open_at old turn place r first next in
    let reads = c.in_ok-time.ensures.reads found.0 found.1 in
    let all : read.all.items ≡ mid.all.items = elim c.match-branch-2.branch [
      | in-Some-2+in_ok-wait w ↦ sym (ap (λ s. s.all.items) w.self-is ∙ ap (λ v. v.items) w.wait.ensures.all)
      | in_default-2 w ↦ sym (ap (λ s. s.all.items) w.self-is)
    ] in
    let live : mid.is_live ≡ old.is_live = elim c.match-branch-2.branch [
      | in-Some-2+in_ok-wait w ↦ ap (λ s. s.is_live) w.self-is ∙ w.wait.ensures.is_live ∙ c.in_ok-time.ensures.is_live
      | in_default-2 w ↦ ap (λ s. s.is_live) w.self-is ∙ c.in_ok-time.ensures.is_live
    ] in
    let waits : Waits turn.place time left mid.turns.waiting.keys = elim c.match-branch-2.branch [
      | in-Some-2+in_ok-wait w ↦ subst (λ o. Waits turn.place o left mid.turns.waiting.keys) (sym w.in-Some-2.is)
          (subst (λ l. HasAlso (turn_at w.in-Some-2.time turn.place) l mid.turns.waiting.keys) (ap (λ t. t.waiting.keys) c.in_ok-time.ensures.turns)
          (subst (λ s. HasAlso (turn_at w.in-Some-2.time turn.place) read.turns.waiting.keys s.turns.waiting.keys) (sym w.self-is) w.in_ok-wait.ensures.waits))
      | in_default-2 w ↦ subst (λ o. Waits turn.place o left mid.turns.waiting.keys) (sym w.in_default-2.is)
          (ap (λ s. s.turns.waiting.keys) w.self-is ∙ ap (λ t. t.waiting.keys) c.in_ok-time.ensures.turns)
    ] in
    on_ok c.open_first.result
    (λ opens. (
      turn,
      left,
      time,
      mid,
      first,
      c.in-Some.ensures.removal,
      subst (λ l. ReadsAt turn.place old.all.items l time) all reads,
      waits,
      live,
      opens,
    ))
    c.open_first.ensures
