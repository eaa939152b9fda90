use Rattle.std.proofs.Common.{◌≡◌, None, false, refl, sym, ap, subst, rules}
use Rattle.std.specs.Option.{is_none, option_map}
use Rattle.capture.specs.Captured.{AreFlowsOf}
use Rattle.capture.specs.FlowTexts.{flow_text}
use Rattle.swimwatch.specs.Connected.{AreRead, HearsAny, IsReadBy, MovesOn, past_of}
use Rattle.swimwatch.specs.Connected.MovesOn.{nothing}
use Rattle.swimwatch.proofs.Connecting.{chained, none_kept, of_both, of_false, some_left, wider_but}
use Rattle.swimwatch.proofs.Flowing.{on_ok}
use Rattle.swimwatch.proofs.listening.connections.Connections.go_on.Goals as goal

pub returns-then-is_none : goal.returns-then-is_none
returns-then-is_none c segments packets read of but is complete =
    let f = c.args.self.now.flows in
    let all = c.args.self.now.progress.entries in
    let none : c.args.complete ≡ None = search rules in
    let no_flow = ap (option_map flow_text) none in
    let was = subst (λ o. IsReadBy read f c.args.ends o c.args.progress) no_flow is in
    let tried = c.in_ok-progress.ensures segments packets read of was in
    on_ok c.keep.result (λ k. (
      c.args.watch.now.listener.view,
      tried.0,
      subst (λ o. HearsAny c.args.opening.clear c.args.opening.keys.now segments read c.args.ends o
          c.args.watch.now.listener.view c.args.watch.now.listener.view) (sym no_flow) refl,
      chained _ _ _ _ _ tried.1 k.0,
      k.1,
    )) (c.keep.ensures segments packets tried.0 of (wider_but read tried.0 f all c.args.ends tried.3 but) tried.2)

pub returns-then-is_none-2 : goal.returns-then-is_none-2
returns-then-is_none-2 c segments packets read of but is complete =
    let f = c.args.self.now.flows in
    let same = sym c.forget.ensures.flows in
    let over = of_both read segments f c.args.ends (option_map flow_text c.args.complete) c.args.progress is complete in
    let are = none_kept read f c.args.self.now.progress.entries c.forget.new.self.progress.entries c.args.ends
    c.forget.ensures.gone c.forget.ensures.others but in (
      c.hear_flow.new.watch.listener.view,
      read,
      c.in_ok-newer.ensures.hears segments read over,
      subst (λ g. MovesOn c.args.opening.clear c.args.opening.keys.now
          (past_of segments packets read f c.hear_flow.new.watch.listener.view)
          (past_of segments packets read g c.hear_flow.new.watch.listener.view)) same nothing,
      (subst (AreFlowsOf segments) same of, subst (λ g. AreRead read g c.forget.new.self.progress.entries) same are),
    )

pub returns : goal.returns
returns c segments packets read of but is complete =
    let f = c.args.self.now.flows in
    let over = of_both read segments f c.args.ends (option_map flow_text c.args.complete) c.args.progress is complete in
    let some : is_none c.args.complete ≡ false = search rules in
    let left = some_left flow_text c.args.complete some c.in_ok-newer.ensures.newer in
    on_ok c.keep-2.result (λ k. (
      c.hear_flow.new.watch.listener.view,
      read,
      c.in_ok-newer.ensures.hears segments read over,
      k.0,
      k.1,
    )) (c.keep-2.ensures segments packets read of but (of_false read f c.args.ends c.in_ok-newer.newer left))
