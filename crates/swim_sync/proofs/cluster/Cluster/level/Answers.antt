use Rattle.std.proofs.Common.{◌≡◌, ◌-◌, ap, subst, sym, ◌∙◌, Result, Err, length, arith}
use Rattle.std.proofs.lemmas.Result.{IfErr-weaker, on_ok_weaker, err_from_is_err_and}
use Rattle.std.specs.Prelude.{IfErr}
use Rattle.swim_sync.specs.declared.stop.Stop.{Stop}
use Rattle.swim_sync.specs.Cluster.{LevelStopped}
use Rattle.swim_sync.proofs.Levelled.{levelled, are_level, stopped_first, stopped_again}
use Rattle.swim_sync.proofs.cluster.Cluster.level.Goals as goal

one : (c : goal.After-meet_each-2) → c.saturating_sub-others.result ≡ length c.args.self.now - 1
one c = c.saturating_sub-others.ensures ∙ ap (λ n. n - 1) c.len.ensures

two : (c : goal.After-meet_each-2) → c.saturating_sub.result ≡ length c.args.self.now - 2
two c = let others = one c in let again = c.saturating_sub.ensures in omega (arith, others, again)

pub returns-in_err-meet_each-clause-stopped : goal.returns-in_err-meet_each-clause-stopped
returns-in_err-meet_each-clause-stopped c =
    let err = err_from_is_err_and c.from_residual.result c.from_residual.ensures.1 in
    let stopped = c.in_err-meet_each.ensures.stopped in
    subst (λ (r : Result (Unit {0}) Stop). IfErr r (LevelStopped c.args.self.now c.meet_each.new.self))
    (sym (err.1 ∙ ap (λ (stop : Stop). Err stop) err.2))
    (stopped_first c.args.self.now c.meet_each.new.self c.saturating_sub-others.result stopped.0 c.in_err-meet_each.field-0.0
    (c.saturating_sub-others.ensures ∙ ap (λ n. n - 1) c.len.ensures) stopped.1 (let done = stopped.2
    in omega (arith, done)) stopped.3 stopped.4)

pub returns-clause-ok : goal.returns-clause-ok
returns-clause-ok c =
    on_ok_weaker c.meet_each-2.result
    (levelled c.args.self.now c.meet_each.new.self c.meet_each-2.new.self c.saturating_sub-others.result c.saturating_sub.result
    (one c) (two c) c.in_ok-meet_each.ensures.ok)
    c.meet_each-2.ensures.ok

pub returns-clause-level : goal.returns-clause-level
returns-clause-level c = on_ok_weaker c.meet_each-2.result (are_level c.args.self.now c.meet_each-2.new.self) (returns-clause-ok c)

pub returns-clause-stopped : goal.returns-clause-stopped
returns-clause-stopped c =
    IfErr-weaker c.meet_each-2.result _ _
    (λ stop (i, below, done, ran, stops). stopped_again c.args.self.now c.meet_each.new.self c.meet_each-2.new.self
    c.saturating_sub-others.result c.saturating_sub.result i stop (one c) (two c)
    below done c.in_ok-meet_each.ensures.ok ran stops)
    c.meet_each-2.ensures.stopped
