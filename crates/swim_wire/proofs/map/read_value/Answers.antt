use Rattle.swim_wire.specs.Reading.{value_at}
use Rattle.swim_wire.specs.Slots.{spelled}
use Rattle.swim_pack.proofs.Composing.{Reads-then, Reads-gives}
use Rattle.swim_wire.proofs.Lifting.{Wire-ok, Wire-err}
use Rattle.swim_wire.proofs.WholeReads.{Reads-exits}
use Rattle.swim_wire.proofs.map.read_value.Goals as goal

pub returns-in_err-read_uint-in-Number-clause-exact : goal.returns-in_err-read_uint-in-Number-clause-exact
unfolding value_at
returns-in_err-read_uint-in-Number-clause-exact g c =
    rw (c.in-Number.is) (Reads-exits _ _ c.from_residual.ensures.1 (Wire-err c.in_err-read_uint-in-Number.ensures.exact))

pub returns-in_ok-read_uint-in-Number-clause-exact : goal.returns-in_ok-read_uint-in-Number-clause-exact
unfolding value_at
returns-in_ok-read_uint-in-Number-clause-exact g c =
    rw (c.in-Number.is) (Reads-then _ (Wire-ok c.in_ok-read_uint-in-Number.ensures.exact) (Reads-gives {view = spelled} _))

pub returns-in_err-read_raw-in-Raw-clause-exact : goal.returns-in_err-read_raw-in-Raw-clause-exact
unfolding value_at
returns-in_err-read_raw-in-Raw-clause-exact g c =
    rw (c.in-Raw.is) (Reads-exits _ _ c.from_residual-in_err-read_raw-in-Raw.ensures.1 (Wire-err c.in_err-read_raw-in-Raw.ensures.exact))

pub returns-in_ok-read_raw-in-Raw-clause-exact : goal.returns-in_ok-read_raw-in-Raw-clause-exact
unfolding value_at
returns-in_ok-read_raw-in-Raw-clause-exact g c =
    rw (c.in-Raw.is) (Reads-then _ (Wire-ok c.in_ok-read_raw-in-Raw.ensures.exact) (Reads-gives {view = spelled} _))

pub returns-in_err-read_bool-in-Flag-clause-exact : goal.returns-in_err-read_bool-in-Flag-clause-exact
unfolding value_at
returns-in_err-read_bool-in-Flag-clause-exact g c =
    rw (c.in-Flag.is) (Reads-exits _ _ c.from_residual-in_err-read_bool-in-Flag.ensures.1
    (Wire-err c.in_err-read_bool-in-Flag.ensures.exact))

pub returns-in_ok-read_bool-in-Flag-clause-exact : goal.returns-in_ok-read_bool-in-Flag-clause-exact
unfolding value_at
returns-in_ok-read_bool-in-Flag-clause-exact g c =
    rw (c.in-Flag.is) (Reads-then _ (Wire-ok c.in_ok-read_bool-in-Flag.ensures.exact) (Reads-gives {view = spelled} _))
