use Rattle.std.proofs.Common.{◌≡◌, ◌∙◌, Some, refl, sym, ap}
use Rattle.std.proofs.Math.Path.{subst}
use Rattle.std.specs.Option.{option_map}
use Rattle.capture.specs.Captured.{AreFlowsOf}
use Rattle.capture.specs.FlowTexts.{flow_text}
use Rattle.capture.specs.OpenFlows.{flow_at}
use Rattle.swimwatch.specs.Connected.{AreRead, MovesOn, past_of}
use Rattle.swimwatch.specs.Connected.MovesOn.{nothing}
use Rattle.swimwatch.proofs.Connecting.{at_first, chained, first_closed, none_kept, of_kept, of_next, of_over, others_read}
use Rattle.swimwatch.proofs.listening.connections.Connections.finish.Goals as goal

pub loop-ends-init : goal.loop-ends-init
loop-ends-init c segments packets read follows = (nothing, follows)

pub loop-ends-preserved : goal.loop-ends-preserved
loop-ends-preserved c segments packets read follows =
    let clear = c.args.opening.clear in
    let keys = c.args.opening.keys.now in
    let before = c.loop-ends.invariant segments packets read follows in
    let ends = c.in-Some.ends in
    let f0 = c.loop-ends.self.flows in
    let f1 = c.finish.new.self in
    let all = c.loop-ends.self.progress.entries in
    let flow = flow_text c.in-Some.flow in
    let newer = option_map flow_text c.in-Some.newer in
    let out = c.in-Some.ensures.of segments before.1.0 in
    let t = c.in-Some.ensures.takes_out in
    let there = at_first clear keys segments packets read ends f0 f1 t.0 t.1 in
    let older_is : Some flow ≡ option_map (λ p. p.older.flow) (flow_at f0 ends) =
    ap Some t.2 ∙ sym (ap (option_map (λ p. p.older.flow)) there) in
    let is = of_kept read f0 all ends c.progress_of-progress.result before.1.1 c.progress_of-progress.ensures.some
    c.progress_of-progress.ensures.none in
    let over = of_over read segments f0 ends (Some flow) c.progress_of-progress.result out.1.0 older_is is in
    let next = of_next read segments ends (Some flow) newer c.in_ok-left.left c.progress_of-progress.result out.1.1
    c.in_ok-left.ensures.newer (λ e. absurd (cc (e))) in
    subst (λ f. MovesOn clear keys (past_of segments packets read c.args.self.now.flows c.args.watch.now.listener.view)
    (past_of segments packets read f c.hear_flow-in-Some.new.watch.listener.view)
    × (AreFlowsOf segments f × AreRead read f c.forget.new.self.progress.entries)) (sym c.forget.ensures.flows) (
      chained clear keys _ _ _ before.0
          (first_closed clear keys segments packets read ends f0 f1 t.0 flow newer _ _ _ t.1 t.2 t.3 c.in-Some.ensures.gone
          c.in-Some.ensures.others (c.in_ok-left.ensures.hears segments read over)
          (c.in_ok-hear_flow.ensures.hears segments read next)),
      (
        out.0,
        none_kept read f1 all c.forget.new.self.progress.entries ends c.forget.ensures.gone c.forget.ensures.others
            (others_read read f0 f1 all ends c.in-Some.ensures.others (λ other e. before.1.1 other)),
      ),
    )

pub returns-clause-hears : goal.returns-clause-hears
returns-clause-hears c segments packets read follows =
    let same : c.finish.new.self ≡ c.loop-ends.self.flows =
    c.in_default.ensures.empty ∙ sym (c.in_default.ensures.none.0 refl) in
    subst (λ f. MovesOn c.args.opening.clear c.args.opening.keys.now
    (past_of segments packets read c.args.self.now.flows c.args.watch.now.listener.view)
    (past_of segments packets read f c.loop-ends.watch.listener.view)
    × (AreFlowsOf segments f × AreRead read f c.loop-ends.self.progress.entries)) (sym same)
    (c.loop-ends.invariant segments packets read follows)
