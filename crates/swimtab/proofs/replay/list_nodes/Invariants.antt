use Rattle.std.proofs.Common.{◌≡◌, map, take}
use Rattle.swimtab.specs.Replay.{shown_from}
use Rattle.swimtab.proofs.replay.list_nodes.Given as goal

abbrev pub invariant-loop-k : goal.invariant-loop-k
invariant-loop-k l = l.text.items ≡ shown_from 0 (take l.k (map (λ node. node.table) l.cluster))
