-- the leaves so far were read
use Rattle.std.proofs.Common.{[], ℕ, List, Bor, map, take}
use Rattle.swimwatch.specs.Datagrams.{values, Reads}
use Rattle.swimwatch.proofs.heard.messages.Messages.of.Given as goal

abbrev pub invariant-loop-leaf : goal.invariant-loop-leaf
invariant-loop-leaf l =
    Reads 1048576 (map (λ (part : Bor (List ℕ)). part.now) (take l.leaf-index l.leaf-items)) []
    (values l.messages.read.items) l.messages.room
