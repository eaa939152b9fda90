use Rattle.std.proofs.Common.{take}
use Rattle.swimwatch.specs.Pinged.{HasPings}
use Rattle.swimwatch.proofs.heard.warnings.Pinged.among.Given as goal

abbrev pub invariant-loop-message : goal.invariant-loop-message
invariant-loop-message l = HasPings l.pairs (take l.message-index l.messages)
