use Rattle.std.proofs.Common.{◌≡◌, sym, ap}
use Rattle.std.proofs.Math.Path.{subst}
use Rattle.swimwatch.specs.Connected.{MovesOn, past_of}
use Rattle.swimwatch.specs.Connected.MovesOn.{nothing}
use Rattle.swimwatch.proofs.Connecting.{chained}
use Rattle.swimwatch.proofs.listening.connections.Connections.close_silent.Goals.{then-branch, else-branch}
use Rattle.swimwatch.proofs.listening.connections.Connections.close_silent.Goals as goal

pub loop-init : goal.loop-init
loop-init c segments packets read follows = (nothing, follows)

pub loop-preserved : goal.loop-preserved
loop-preserved c segments packets read follows =
    let before = c.loop.invariant segments packets read follows in
    let more = c.in_ok-close_first.ensures segments packets read before.1 in
    let same : c.if-branch.watch.listener.view ≡ c.close_first.new.watch.listener.view =
    elim c.if-branch.branch
    [ then-branch w ↦ ap (λ x. x.listener.view) w.watch-is | else-branch w ↦ ap (λ x. x.listener.view) w.watch-is ] in (
      subst (λ v. MovesOn c.args.opening.clear c.args.opening.keys.now
          (past_of segments packets read c.args.self.now.flows c.args.watch.now.listener.view)
          (past_of segments packets read c.close_first.new.self.flows v)) (sym same) (chained _ _ _ _ _ before.0 more.0),
      more.1,
    )
