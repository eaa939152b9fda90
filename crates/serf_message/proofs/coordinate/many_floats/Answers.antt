use Rattle.std.proofs.Common.{◌≡◌, ◌+◌, ◌-◌, suc, arith, inl}
use Rattle.std.proofs.lemmas.Result.{err_from_is_err_and}
use Rattle.serf_message.specs.Reading.{float_at}
use Rattle.serf_message.proofs.Listing.{one_more, bad_many, many_read}
use Rattle.serf_message.proofs.coordinate.many_floats.Goals as goal

pub returns-in_err-value : goal.returns-in_err-value
returns-in_err-value c =
    let p = err_from_is_err_and c.from_residual.result c.from_residual.ensures.1 in
    let e : c.args.count - c.loop.counter ≡ suc (c.args.count - c.loop.counter - 1) = omega arith in
    rw (p.1, p.2) (inl (bad_many float_at _ _ _ _ _ _ _ c.loop.invariant e c.in_err-value.ensures))

pub loop-preserved : goal.loop-preserved
loop-preserved c =
    let e : c.args.count - c.loop.counter ≡ suc (c.args.count - (c.loop.counter + 1)) = omega arith in
    one_more float_at _ _ _ _ _ _ _ _ _ c.loop.invariant e c.in_ok-append.ensures c.in_ok-value.ensures

pub returns : goal.returns
returns c = many_read float_at _ _ _ _ _ c.loop.invariant (omega arith)
