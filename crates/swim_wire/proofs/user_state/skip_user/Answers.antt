use Rattle.std.proofs.Common.{◌≡◌, ◌≤◌, ◌+◌, ◌-◌, ◌++◌, length, length-append, arith, rules}
use Rattle.std.proofs.KnownBytes.{Consumes-trans}
use Rattle.std.proofs.lemmas.Result.{err_from_is_err_and}
use Rattle.swim_pack.specs.Ends.{ConsumesSome}
use Rattle.swim_pack.proofs.Composing.{ConsumesText-consumed}
use Rattle.swim_wire.proofs.UserState.{user_lacks}
use Rattle.swim_wire.proofs.user_state.skip_user.Goals as goal

pub returns-clause-takes : goal.returns-clause-takes
returns-clause-takes g c =
    let gone = c.loop-left.invariant.dropped in
    let sum = gone.2 in
    ConsumesText-consumed _ _ (λ b. length b ≡ c.args.len) gone.0 (omega (arith, sum, c.loop-left-test.false)) gone.1

pub returns-in_err-pull-clause-lacks : goal.returns-in_err-pull-clause-lacks
returns-in_err-pull-clause-lacks g c =
    let p = err_from_is_err_and c.from_residual.result c.from_residual.ensures.1 in
    let gone = c.loop-left.invariant.dropped in
    let le : c.min-size.result ≤ c.loop-left.left = search rules in
    rw (p.1, p.2)
    (user_lacks (g.I.Inlet.seen c.args.inlet.now) (g.I.Inlet.seen c.loop-left.inlet) c.args.len c.loop-left.left
    c.min-size.result gone.0 c.in_err-pull.field-0.0 gone.1 gone.2 le (λ ended. search rules))

pub returns-in_err-pull-clause-end : goal.returns-in_err-pull-clause-end
returns-in_err-pull-clause-end g c =
    let gone = c.loop-left.invariant.dropped in
    let more = c.in_err-pull.ensures.refused in
    let stay = c.loop-left.invariant.faults in
    let after = c.in_err-pull.ensures.faults_stay in
    let taken : ConsumesSome (g.I.Inlet.seen c.args.inlet.now).coming (g.I.Inlet.seen c.pull.new.self).coming =
    (gone.0 ++ more.0, Consumes-trans _ _ _ gone.0 more.0 gone.1 more.1) in
    (taken, omega arith)

pub loop-left-preserved : goal.loop-left-preserved
loop-left-preserved g c =
    let gone = c.loop-left.invariant.dropped in
    let long : length c.pull.new.buf ≡ c.min-size.result = search rules in
    let le : c.min-size.result ≤ c.loop-left.left = search rules in
    let sum = gone.2 in
    let lengths = length-append gone.0 c.pull.new.buf in
    let rest : length (gone.0 ++ c.pull.new.buf) +
    (c.loop-left.left - c.min-size.result) ≡ c.args.len = omega (arith, long, le, sum, lengths) in
    record {
      dropped = (gone.0 ++ c.pull.new.buf, Consumes-trans _ _ _ gone.0 c.pull.new.buf gone.1 c.in_ok-pull.ensures.ok, rest);
      faults = let before = c.loop-left.invariant.faults in let after = c.in_ok-pull.ensures.faults_stay in omega arith;
    }
