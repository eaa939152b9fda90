use Rattle.std.proofs.Common.{◌≡◌, true, IfSome, refl, sym, ap}
use Rattle.std.proofs.Math.Path.{subst}
use Rattle.std.specs.Option.{option_map}
use Rattle.std.specs.Prelude.{Contains}
use Rattle.capture.specs.Captured.{IsFlowOf}
use Rattle.capture.specs.FlowTexts.{flow_text}
use Rattle.swimwatch.specs.Connected.{HearsAny, direction}
use Rattle.swimwatch.proofs.listening.progress.hear_flow.Goals as goal

pub returns-in_ok-hear_whole-in-Some-clause-hears : goal.returns-in_ok-hear_whole-in-Some-clause-hears
returns-in_ok-hear_whole-in-Some-clause-hears c segments read of =
    let is = ap (option_map flow_text) c.in-Some.is in
    let over = subst (λ o. IfSome o (λ f. IsFlowOf segments c.args.ends f
    × (c.args.progress.is_read ≡ true → Contains read (direction c.args.ends f.start)))) is of in
    subst (λ o. HearsAny c.args.opening.clear c.args.opening.keys.now segments read c.args.ends o
    c.args.watch.now.listener.view c.hear_whole.new.watch.listener.view) (sym is)
    (c.in_ok-hear_whole-in-Some.ensures segments read over.0 over.1)

pub returns-in-None-clause-hears : goal.returns-in-None-clause-hears
returns-in-None-clause-hears c segments read of =
    subst (λ o. HearsAny c.args.opening.clear c.args.opening.keys.now segments read c.args.ends o
    c.args.watch.now.listener.view c.args.watch.now.listener.view) (sym (ap (option_map flow_text) c.in-None.is)) refl
