use Rattle.std.proofs.Common.{◌≡◌, ◌+◌, ◌-◌, suc, arith}
use Rattle.std.proofs.lemmas.Result.{err_from_is_err_and}
use Rattle.serf_message.proofs.Listing.{one_more, bad_one, all_read, mapped_more}
use Rattle.serf_message.proofs.Slotting.{fault_of}
use Rattle.serf_message.specs.Many.{fresh_bytes_at}
use Rattle.serf_message.proofs.many.many_bytes.Goals as goal

pub returns-in_err-value : goal.returns-in_err-value
returns-in_err-value c =
    let p = err_from_is_err_and c.from_residual.result c.from_residual.ensures.1 in
    let e : c.args.count - c.loop.counter ≡ suc (c.args.count - c.loop.counter - 1) = omega arith in
    rw (p.1, p.2) (fault_of _ _ _ (λ read. bad_one fresh_bytes_at _ _ _ _ _ _ _ c.loop.invariant e read) c.in_err-value.ensures)

pub loop-preserved : goal.loop-preserved
loop-preserved c =
    let e : c.args.count - c.loop.counter ≡ suc (c.args.count - (c.loop.counter + 1)) = omega arith in
    one_more fresh_bytes_at _ _ _ _ _ _ _ _ _ c.loop.invariant e
    (mapped_more (λ v. v.items) _ _ _ c.in_ok-append.ensures) c.in_ok-value.ensures

pub returns : goal.returns
returns c = all_read fresh_bytes_at _ _ _ _ _ c.loop.invariant (omega arith)
