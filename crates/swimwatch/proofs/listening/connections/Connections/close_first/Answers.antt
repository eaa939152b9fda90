use Rattle.std.proofs.Common.{◌∙◌, sym}
use Rattle.std.proofs.Math.Path.{subst}
use Rattle.std.specs.Option.{option_map}
use Rattle.capture.specs.Captured.{AreFlowsOf}
use Rattle.capture.specs.FlowTexts.{flow_text}
use Rattle.swimwatch.specs.Connected.{AreOthers, AreRead, MovesOn, past_of}
use Rattle.swimwatch.specs.Connected.MovesOn.{nothing}
use Rattle.swimwatch.proofs.Connecting.{closed, none_kept, none_next, of_kept, of_next, of_over, one_kept, others_read}
use Rattle.swimwatch.proofs.listening.connections.Connections.close_first.Goals as goal

pub returns-in_default : goal.returns-in_default
returns-in_default c segments packets read follows = (nothing, follows)

pub returns-then-since-progress : goal.returns-then-since-progress
returns-then-since-progress c segments packets read follows =
    let ends = c.in-Some.field-0.ends in
    let f0 = c.args.self.now.flows in
    let all = c.args.self.now.progress.entries in
    let is = of_kept read f0 all ends c.progress_of-progress.result follows.1 c.progress_of-progress.ensures.some
    c.progress_of-progress.ensures.none in
    subst (λ f. MovesOn c.args.opening.clear c.args.opening.keys.now
    (past_of segments packets read f0 c.args.watch.now.listener.view)
    (past_of segments packets read f c.args.watch.now.listener.view)
    × (AreFlowsOf segments f × AreRead read f c.note.new.self.progress.entries)) (sym c.note.ensures.flows) (
      nothing,
      (
        follows.0,
        one_kept read f0 all c.note.new.self.progress.entries ends _ c.in_ok-note.ensures.there c.in_ok-note.ensures.others
            (λ other e. follows.1 other) is,
      ),
    )

pub returns : goal.returns
returns c segments packets read follows =
    let ends = c.in-Some.field-0.ends in
    let f0 = c.args.self.now.flows in
    let f2 = c.close-newer.new.self in
    let all = c.args.self.now.progress.entries in
    let older = option_map flow_text c.close-older.result in
    let newer = option_map flow_text c.close-newer.result in
    let is = of_kept read f0 all ends c.progress_of-progress.result follows.1 c.progress_of-progress.ensures.some
    c.progress_of-progress.ensures.none in
    let first = c.close-older.ensures.of segments follows.0 in
    let second = c.close-newer.ensures.of segments first.0 in
    let over = of_over read segments f0 ends older c.progress_of-progress.result first.1 c.close-older.ensures.flow is in
    let none = none_next c.args.opening.clear c.args.opening.keys.now segments packets read ends f0 c.close-older.new.self older newer
    c.close-older.ensures.flow c.close-older.ensures.none c.close-newer.ensures.flow in
    let next = of_next read segments ends older newer c.in_ok-left.left c.progress_of-progress.result second.1
    c.in_ok-left.ensures.newer none in
    let others : AreOthers ends f0 f2 = λ other e. c.close-newer.ensures.others other e ∙ c.close-older.ensures.others other e in
    subst (λ f. MovesOn c.args.opening.clear c.args.opening.keys.now
    (past_of segments packets read f0 c.args.watch.now.listener.view)
    (past_of segments packets read f c.hear_flow-2.new.watch.listener.view)
    × (AreFlowsOf segments f × AreRead read f c.forget.new.self.progress.entries)) (sym c.forget.ensures.flows) (
      closed c.args.opening.clear c.args.opening.keys.now segments packets read ends f0 c.close-older.new.self f2 older newer _
          _ _ c.close-older.ensures.flow c.close-older.ensures.newer c.close-older.ensures.none c.close-older.ensures.others
          c.close-newer.ensures.flow c.close-newer.ensures.newer c.close-newer.ensures.none c.close-newer.ensures.others
          (c.in_ok-left.ensures.hears segments read over) (c.in_ok-hear_flow.ensures.hears segments read next),
      (
        second.0,
        none_kept read f2 all c.forget.new.self.progress.entries ends c.forget.ensures.gone c.forget.ensures.others
            (others_read read f0 f2 all ends others (λ other e. follows.1 other)),
      ),
    )
