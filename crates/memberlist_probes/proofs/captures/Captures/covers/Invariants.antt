use Rattle.std.proofs.Common.{take, All}
use Rattle.memberlist_probes.specs.Captured.{IsCovering}
use Rattle.memberlist_probes.proofs.captures.Captures.covers.Given as goal

abbrev pub invariant-loop-capture : goal.invariant-loop-capture
invariant-loop-capture l = All (λ capture. IsCovering capture l.host l.start l.span → ⊥) (take l.capture-index l.capture-items)
