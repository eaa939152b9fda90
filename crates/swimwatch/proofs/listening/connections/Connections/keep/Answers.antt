use Rattle.std.proofs.Common.{◌≡◌, sym, ap, subst, ◌∙◌}
use Rattle.capture.specs.Captured.{AreFlowsOf}
use Rattle.swimwatch.specs.Connected.{AreRead, MovesOn, past_of}
use Rattle.swimwatch.specs.Connected.MovesOn.{nothing}
use Rattle.swimwatch.proofs.Connecting.{chained, one_kept}
use Rattle.swimwatch.proofs.listening.connections.Connections.keep.Goals.{then-branch-2, else-branch-2, then-branch+in_ok-add, else-branch}
use Rattle.swimwatch.proofs.listening.connections.Connections.keep.Goals as goal

pub loop-init : goal.loop-init
loop-init c segments packets read follows = (nothing, follows)

pub loop-preserved : goal.loop-preserved
loop-preserved c segments packets read follows =
    let before = c.loop.invariant segments packets read follows in
    let more = c.in_ok-close_first.ensures segments packets read before.1 in
    let same : c.if-branch-2.watch.listener.view ≡ c.close_first.new.watch.listener.view =
    elim c.if-branch-2.branch
    [ then-branch-2 w ↦ ap (λ x. x.listener.view) w.watch-is | else-branch-2 w ↦ ap (λ x. x.listener.view) w.watch-is ] in (
      subst (λ v. MovesOn c.args.opening.clear c.args.opening.keys.now
          (past_of segments packets read c.if-branch.self.flows c.args.watch.now.listener.view)
          (past_of segments packets read c.close_first.new.self.flows v)) (sym same) (chained _ _ _ _ _ before.0 more.0),
      more.1,
    )

pub returns-after-loop : goal.returns-after-loop
returns-after-loop c segments packets read of but is =
    let f0 = c.args.self.now.flows in
    let flows : c.if-branch.self.flows ≡ c.note.new.self.flows =
    elim c.if-branch.branch
    [ then-branch+in_ok-add w ↦ ap (λ x. x.flows) w.self-is | else-branch w ↦ ap (λ x. x.flows) w.self-is ] in
    let all : c.if-branch.self.progress.entries ≡ c.note.new.self.progress.entries =
    elim c.if-branch.branch
    [ then-branch+in_ok-add w ↦ ap (λ x. x.progress.entries) w.self-is | else-branch w ↦ ap (λ x. x.progress.entries) w.self-is ] in
    let same = flows ∙ c.note.ensures.flows in
    let are = one_kept read f0 c.args.self.now.progress.entries c.note.new.self.progress.entries c.args.ends c.args.progress
    c.in_ok-note.ensures.there c.in_ok-note.ensures.others but is in
    let kept = subst (λ p. AreRead read f0 p) (sym all) are in
    let start = subst (λ f. AreFlowsOf segments f × AreRead read f c.if-branch.self.progress.entries) (sym same) (of, kept) in
    let end = c.loop.invariant segments packets read start in (
      subst (λ f. MovesOn c.args.opening.clear c.args.opening.keys.now
          (past_of segments packets read f c.args.watch.now.listener.view)
          (past_of segments packets read c.loop.self.flows c.loop.watch.listener.view)) same end.0,
      end.1,
    )

pub returns-then-not-is_full : goal.returns-then-not-is_full
returns-then-not-is_full c segments packets read of but is =
    let f0 = c.args.self.now.flows in
    let flows : c.if-branch.self.flows ≡ c.note.new.self.flows =
    elim c.if-branch.branch
    [ then-branch+in_ok-add w ↦ ap (λ x. x.flows) w.self-is | else-branch w ↦ ap (λ x. x.flows) w.self-is ] in
    let all : c.if-branch.self.progress.entries ≡ c.note.new.self.progress.entries =
    elim c.if-branch.branch
    [ then-branch+in_ok-add w ↦ ap (λ x. x.progress.entries) w.self-is | else-branch w ↦ ap (λ x. x.progress.entries) w.self-is ] in
    let same = flows ∙ c.note.ensures.flows in
    let are = one_kept read f0 c.args.self.now.progress.entries c.note.new.self.progress.entries c.args.ends c.args.progress
    c.in_ok-note.ensures.there c.in_ok-note.ensures.others but is in
    let kept = subst (λ p. AreRead read f0 p) (sym all) are in
    let start = subst (λ f. AreFlowsOf segments f × AreRead read f c.if-branch.self.progress.entries) (sym same) (of, kept) in
    let end = c.loop.invariant segments packets read start in (
      subst (λ f. MovesOn c.args.opening.clear c.args.opening.keys.now
          (past_of segments packets read f c.args.watch.now.listener.view)
          (past_of segments packets read c.loop.self.flows c.loop.watch.listener.view)) same end.0,
      end.1,
    )
