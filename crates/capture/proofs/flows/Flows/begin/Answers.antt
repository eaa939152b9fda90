use Rattle.std.proofs.Common.{◌≡◌, Some, refl, rules}
use Rattle.capture.specs.OpenFlows.{flow_at, alone}
use Rattle.capture.proofs.Hearing.{hears_begun}
use Rattle.capture.proofs.flows.Flows.begin.Goals as goal

pub returns-clause-hears : goal.returns-clause-hears
returns-clause-hears c =
    let there : flow_at c.insert.new.self.entries c.args.ends ≡ Some (alone c.take.new.self) = search rules in
    hears_begun _ _ _ _ _ _ c.requires.first refl _ _ _ _ c.requires.none c.requires.starts
    c.new-open.ensures.is c.in_ok-taken.ensures.takes there c.take_out-complete.ensures.out
