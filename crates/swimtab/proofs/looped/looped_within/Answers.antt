use Rattle.std.proofs.Common.{ap, inr}
use Rattle.swim_wire.specs.declared.fault.WireFault.TheVariants as wire
use Rattle.swim_program.specs.declared.report.Report.{Report}
use Rattle.swimtab.proofs.Looping.{equal_told}
use Rattle.swimtab.proofs.looped.looped_within.Goals as goal

pub returns-in-Ok-clause-loops : goal.returns-in-Ok-clause-loops
returns-in-Ok-clause-loops g c =
    let first = c.in_default.ensures.first in
    let second = c.in_default.ensures.second in
    record {
      claims = first.0;
      others = second.0;
      one = c.exchange_over_socket.new.first;
      other = c.exchange_over_socket.new.second;
      taken = first.1;
      taken_too = second.1;
      shown = c.in-Ok.ensures;
      told =
          rw c.eq.ensures (equal_told c.exchange_over_socket.new.first c.exchange_over_socket.new.second _ c.relation.result
          first.1.reduced c.relation.ensures);
    }

pub returns-clause-stops : goal.returns-clause-stops
returns-clause-stops g c = record {
  fault = wire.Memory;
  what = ap (λ (r : Report). r.what) c.at-in-Err-list.ensures;
  place = inr (ap (λ (r : Report). r.place) c.at-in-Err-list.ensures, ap (λ (r : Report). r.what) c.at-in-Err-list.ensures);
}
