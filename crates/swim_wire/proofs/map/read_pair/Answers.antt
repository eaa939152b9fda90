use Rattle.std.proofs.Common.{sym, ◌∙◌}
use Rattle.std.proofs.lemmas.Result.{err_from_is_err_and}
use Rattle.swim_wire.proofs.Asking.{fault_exits, pair_asks}
use Rattle.swim_wire.proofs.Fitting.{FitsEach-set, CanReadEach-at}
use Rattle.swim_wire.proofs.PairReads.{within_slots, pair_without_key, pair_twice, pair_without_value, pair_read}
use Rattle.swim_wire.proofs.map.read_pair.Goals as goal

pub returns-in_err-place-clause-exact : goal.returns-in_err-place-clause-exact
returns-in_err-place-clause-exact g c =
    let p = err_from_is_err_and c.from_residual.result c.from_residual.ensures.1 in
    rw (p.1, p.2) (pair_without_key _ _ c.in_err-place.ensures.exact)

pub returns-then-is_some-clause-exact : goal.returns-then-is_some-clause-exact
returns-then-is_some-clause-exact g c =
    let known = c.in_ok-place.ensures.within in
    pair_twice _ _ _ _ (within_slots _ _ _ c.requires.within known) (sym c.is_some.ensures ∙ c.if-is_some.true) c.in_ok-place.ensures.exact

pub returns-in_err-read_value-clause-exact : goal.returns-in_err-read_value-clause-exact
returns-in_err-read_value-clause-exact g c =
    let p = err_from_is_err_and c.from_residual-in_err-read_value.result c.from_residual-in_err-read_value.ensures.1 in
    let known = c.in_ok-place.ensures.within in
    rw (p.1, p.2)
    (pair_without_value _ _ _ _ _ known (within_slots _ _ _ c.requires.within known) (sym c.is_some.ensures ∙ c.if-is_some.false)
    c.in_ok-place.ensures.exact c.in_err-read_value.ensures.exact)

pub returns-in_err-read_value-clause-memory : goal.returns-in_err-read_value-clause-memory
returns-in_err-read_value-clause-memory g c =
    fault_exits _ c.from_residual-in_err-read_value.ensures.1
    (λ is. pair_asks _ _ _ c.in_ok-place.ensures.within c.in_ok-place.ensures.exact (c.in_err-read_value.ensures.memory is))

pub returns-clause-exact : goal.returns-clause-exact
returns-clause-exact g c =
    let known = c.in_ok-place.ensures.within in
    pair_read _ _ _ _ _ known (within_slots _ _ _ c.requires.within known) (sym c.is_some.ensures ∙ c.if-is_some.false)
    c.in_ok-place.ensures.exact c.in_ok-read_value.ensures.exact

pub returns-clause-within : goal.returns-clause-within
returns-clause-within g c =
    FitsEach-set _ _ _ _ _ c.in_ok-place.ensures.within c.requires.within c.in_ok-read_value.ensures.within

pub read_value-requires : goal.read_value-requires
read_value-requires g c = CanReadEach-at _ _ _ _ c.in_ok-place.ensures.within c.requires.memory
