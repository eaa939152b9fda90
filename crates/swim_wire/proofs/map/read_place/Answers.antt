use Rattle.std.proofs.Common.{sym, ◌∙◌, refl}
use Rattle.swim_wire.specs.Reading.{key_at}
use Rattle.swim_wire.specs.declared.fault.WireFault.TheVariants.{UnknownKey}
use Rattle.swim_pack.proofs.Composing.{Reads-then, Reads-ok_or}
use Rattle.swim_wire.proofs.Places.{place_of-layout}
use Rattle.swim_wire.proofs.WholeReads.{Reads-exits}
use Rattle.swim_wire.proofs.map.read_place.Goals as goal

pub returns-in_err-len-clause-exact : goal.returns-in_err-len-clause-exact
unfolding key_at
returns-in_err-len-clause-exact g c = Reads-exits _ _ c.from_residual.ensures.1 c.in_err-len.ensures.exact

pub returns-clause-exact : goal.returns-clause-exact
unfolding key_at
returns-clause-exact g c =
    let found = c.place_of.ensures.place ∙ sym (place_of-layout c.args.layout.now _) in
    rw (c.ok_or.ensures.value, found) (Reads-then _ c.in_ok-len.ensures.exact (Reads-ok_or UnknownKey _ refl))
