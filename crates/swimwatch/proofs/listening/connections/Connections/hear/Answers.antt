use Rattle.std.proofs.Common.{◌≡◌, None, IfSome, false, refl, sym, ap, subst, rules}
use Rattle.std.specs.Option.{option_map}
use Rattle.capture.specs.FlowTexts.{flow_text}
use Rattle.capture.specs.OpenFlows.{Hears, flow_at}
use Rattle.capture.specs.Packets.{tcp_text}
use Rattle.swimwatch.specs.Connected.{HearsAny, IsReadBy}
use Rattle.swimwatch.specs.Connected.MovesOn.{nothing}
use Rattle.swimwatch.proofs.Connecting.{idle, of_kept, of_same, others_read, replaced_read, still_read, zipped}
use Rattle.swimwatch.proofs.Flowing.{on_ok}
use Rattle.swimwatch.proofs.listening.connections.Connections.hear.Goals as goal

pub returns-in_default : goal.returns-in_default
returns-in_default c segments packets read before hears others of are replaced complete =
    let ends = c.args.ends in
    let f = c.args.self.now.flows in
    let none : c.args.heard.taken ≡ None = search rules in
    let still = idle read before f ends (tcp_text c.args.segment.now) _ _ c.args.self.now.progress.entries
    (subst (λ t. Hears (flow_at before ends) (tcp_text c.args.segment.now) t (option_map flow_text c.args.heard.replaced)
    (option_map flow_text c.args.heard.complete) (flow_at f ends)) none hears) others are in
    let view = c.args.watch.now.listener.view in (
      view,
      view,
      read,
      subst (λ o. HearsAny c.args.opening.clear c.args.opening.keys.now segments read ends o view view) (sym still.0) refl,
      subst (λ o. HearsAny c.args.opening.clear c.args.opening.keys.now segments read ends o view view) (sym still.1) refl,
      nothing,
      (of, still.2),
    )

pub returns-then-is_aside : goal.returns-then-is_aside
returns-then-is_aside c segments packets read before hears others of are replaced complete =
    let clear = c.args.opening.clear in
    let keys = c.args.opening.keys.now in
    let ends = c.args.ends in
    let f = c.args.self.now.flows in
    let all = c.args.self.now.progress.entries in
    let view = c.args.watch.now.listener.view in
    let progress = c.progress_of-progress.result in
    let not_replaced : c.args.heard.replaced ≡ None = search rules in
    let not_complete : c.args.heard.complete ≡ None = search rules in
    let no_older = ap (option_map flow_text) not_replaced in
    let no_newer = ap (option_map flow_text) not_complete in
    let was = of_kept read before all ends progress are c.progress_of-progress.ensures.some c.progress_of-progress.ensures.none in
    let by = still_read read before f ends (tcp_text c.args.segment.now) _ _ _ progress progress hears was (λ e. refl)
    (subst (λ o. IfSome o (λ x. progress.is_read ≡ false)) (sym no_older) tt) in
    let is = subst (λ o. IsReadBy read f ends o progress) no_newer by in
    on_ok c.keep.result (λ k. (
      view,
      view,
      read,
      subst (λ o. HearsAny clear keys segments read ends o view view) (sym no_older) refl,
      subst (λ o. HearsAny clear keys segments read ends o view view) (sym no_newer) refl,
      k.0,
      k.1,
    )) (c.keep.ensures segments packets read of (others_read read before f all ends others (λ other e. are other)) is)

pub returns : goal.returns
returns c segments packets read before hears others of are replaced complete =
    let ends = c.args.ends in
    let f = c.args.self.now.flows in
    let all = c.args.self.now.progress.entries in
    let t = tcp_text c.args.segment.now in
    let progress = c.progress_of-progress.result in
    let left = c.in_ok-progress.progress in
    let was = of_kept read before all ends progress are c.progress_of-progress.ensures.some c.progress_of-progress.ensures.none in
    let over = zipped read _ _ (option_map flow_text c.args.heard.replaced) replaced
    (replaced_read read before ends t _ _ _ _ progress hears was) in
    let by = still_read read before f ends t _ _ _ progress left hears was
    (λ e. ap (λ p. p.is_read) (c.in_ok-progress.ensures.none e)) c.in_ok-progress.ensures.newer in
    let noted = of_same read f ends (option_map flow_text c.args.heard.complete) left c.note.new.self c.note.ensures by in
    on_ok c.go_on.result (λ g. (
      c.hear_flow.new.watch.listener.view,
      g.0,
      g.1,
      c.in_ok-progress.ensures.hears segments read over,
      g.2,
      g.3,
      g.4,
    ))
    (c.go_on.ensures segments packets read of (others_read read before f all ends others (λ other e. are other)) noted complete)
