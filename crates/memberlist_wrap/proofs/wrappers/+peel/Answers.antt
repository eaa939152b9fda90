use Rattle.std.proofs.lemmas.Result.{err_from_is_err_and}
use Rattle.memberlist_wrap.proofs.Weakening.{IfOk-weaker, IfErr-weaker}
use Rattle.memberlist_wrap.proofs.Layers.{Holds-more, ReasonFor-more, ReasonFor-here}
use Rattle.memberlist_wrap.proofs.wrappers.+peel.Goals as goal

pub returns-in_err-take_off-clause-err : goal.returns-in_err-take_off-clause-err
returns-in_err-take_off-clause-err t c =
    let exit = err_from_is_err_and c.from_residual.result c.from_residual.ensures.1 in
    rw (exit.1, exit.2) (λ limit. ReasonFor-here c.args.depth limit _ c.args.bytes.now (c.in_err-take_off.ensures.err limit))

pub returns-in-Layer-clause-ok : goal.returns-in-Layer-clause-ok
returns-in-Layer-clause-ok t c =
    let s = rw c.in-Layer.is at c.in_ok-take_off.ensures.ok in
    IfOk-weaker c.peel.result c.peel.ensures.ok
    (λ core holds. Holds-more c.args.depth c.args.bytes.now c.in-Layer.inner.now s.2.0 s.2.1 core s.0 s.1 s.2.2 s.2.3 holds)

pub returns-in-Layer-clause-err : goal.returns-in-Layer-clause-err
returns-in-Layer-clause-err t c =
    let s = rw c.in-Layer.is at c.in_ok-take_off.ensures.ok in
    IfErr-weaker c.peel.result c.peel.ensures.err
    (λ fault why limit. ReasonFor-more c.args.depth limit fault c.args.bytes.now c.in-Layer.inner.now s.2.0
    s.2.1 s.0 s.2.2 (s.2.3 limit) (why limit))
