use Rattle.std.proofs.Common.{◌≡◌, ◌++◌, take}
use Rattle.std.specs.List.{flat_map}
use Rattle.swim_wire.specs.Pairs.{pair_text, pairs_of}
use Rattle.swim_wire.proofs.canonical.pairs.append_map.Given as goal

abbrev pub invariant-loop-key : goal.invariant-loop-key
invariant-loop-key l = l.out.items ≡ l.initial.out.items ++ flat_map pair_text (pairs_of (take l.key-index l.pairs))
