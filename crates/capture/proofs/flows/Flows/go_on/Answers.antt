use Rattle.std.proofs.Common.{refl}
use Rattle.capture.proofs.Hearing.{hears_own}
use Rattle.capture.proofs.flows.Flows.go_on.Goals as goal

pub returns-clause-hears : goal.returns-clause-hears
returns-clause-hears c =
    hears_own _ _ _ _ _ _ c.requires.first refl _ _ _ c.requires.there c.in_ok-taken.ensures.stays c.in_ok-taken.ensures.goes
    c.take_out-complete.ensures.out
