use Rattle.std.proofs.Common.{◌≡◌, ◌∙◌, Some, sym, ap, rules}
use Rattle.std.specs.Option.{option_map}
use Rattle.capture.specs.FlowTexts.{flow_text}
use Rattle.capture.specs.OpenFlows.{flow_at}
use Rattle.swimwatch.specs.Connected.MovesOn.{nothing}
use Rattle.swimwatch.proofs.Connecting.{tried}
use Rattle.swimwatch.proofs.listening.connections.Connections.try_reading.Goals.{then-not-may_read-via-then-not-may_read, then-not-may_read-via-else-not-may_read+then-not-may_read-2}
use Rattle.swimwatch.proofs.listening.connections.Connections.try_reading.Goals as goal

pub returns-then-not-may_read : goal.returns-then-not-may_read
returns-then-not-may_read c segments packets read of is =
    let same : c.then-not-may_read.progress.is_read ≡ c.args.progress.is_read =
    elim c.then-not-may_read.branch
    [ then-not-may_read-via-then-not-may_read w ↦ ap (λ p. p.is_read) w.progress-is | then-not-may_read-via-else-not-may_read+then-not-may_read-2 w ↦ ap (λ p. p.is_read) w.progress-is ∙ w.may_read.ensures ] in
    (read, nothing, λ e. is (sym same ∙ e), λ d has. has)

pub returns-in_default : goal.returns-in_default
returns-in_default c segments packets read of is = (read, nothing, λ e. is (sym c.may_read.ensures ∙ e), λ d has. has)

pub returns : goal.returns
returns c segments packets read of is =
    let there : Some (flow_text c.in-Some.flow.now)
    ≡ option_map (λ p. p.older.flow) (flow_at c.args.self.now.flows c.args.ends) = search rules in
    tried c.args.opening.clear c.args.opening.keys.now segments packets read c.args.ends c.args.self.now.flows
    (flow_text c.in-Some.flow.now) c.bytes.result.now c.sent_at-sent.result.time c.in_ok-progress.field-0 _ _
    c.bytes.ensures.is there of c.in_ok-progress.ensures.hears
