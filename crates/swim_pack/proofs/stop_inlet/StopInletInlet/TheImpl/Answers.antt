use Rattle.std.proofs.Common.{arith}
use Rattle.swim_pack.proofs.Refusals.{ConsumesSome-kept, ok_where_empty}
use Rattle.swim_pack.proofs.stop_inlet.StopInletInlet.TheImpl.Goals as goal

pub pull-tells : goal.pull-tells
pull-tells g c = record {
  ok = c.ensures.ok;
  empty = ok_where_empty c.result _ _ _ c.ensures.stops c.ensures.ended;
  ended = c.ensures.ended;
  fault = λ failed. (let count = c.ensures.fault failed in omega (arith, count));
  refused = ConsumesSome-kept c.result _ _ c.ensures.kept;
  faults_stay = c.ensures.faults_stay;
}
