use Rattle.std.proofs.Common.{refl}
use Rattle.swim_pack.proofs.Composing.{Reads-ok_or}
use Rattle.capture.proofs.checks.order_in.Goals as goal

pub returns : goal.returns
returns c = λ at. rw (c.ok_or.ensures.value, c.told_by.ensures) (Reads-ok_or _ _ refl)
