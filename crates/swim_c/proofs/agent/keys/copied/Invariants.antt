use Rattle.std.proofs.Common.{◌≡◌, ◌≤◌, length, take}
use Rattle.swim_c.proofs.agent.keys.copied.Given as goal

abbrev pub invariant-loop-i : goal.invariant-loop-i
invariant-loop-i l = (l.made ≡ take l.i l.keys) × (l.i ≤ length l.keys) × (l.i-end ≡ length l.keys)
