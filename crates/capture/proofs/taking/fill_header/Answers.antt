use Rattle.std.proofs.Common.{◌≡◌, ◌-◌, ◌++◌, length, refl, arith}
use Rattle.std.proofs.lemmas.Result.{err_from_is_err_and}
use Rattle.swim_pack.proofs.Composing.{Reads-exit, Reads-then}
use Rattle.capture.specs.Taking.{next_header}
use Rattle.capture.proofs.Parts.{Reads-mapped}
use Rattle.capture.proofs.taking.fill_header.Goals as goal

pub returns-in_err-fill_first : goal.returns-in_err-fill_first
unfolding next_header
returns-in_err-fill_first g c =
    let p = err_from_is_err_and c.from_residual.result c.from_residual.ensures.1 in
    rw (p.1, p.2) (Reads-exit _ c.in_err-fill_first.ensures)

pub returns : goal.returns
unfolding next_header
returns g c =
    let back = c.split_at_mut-first.ensures.back_len in
    let size : length c.split_at_mut-first.result.1.now ≡ length c.args.header.now - 1 = omega arith in
    Reads-then _ c.in_ok-fill_first.ensures
    (Reads-mapped c.fill.result (λ rest. c.fill_first.new.first ++ rest) (λ x. refl) (rw size at c.fill.ensures))
