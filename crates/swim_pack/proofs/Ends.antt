-- What a sequence of calls does to an end.
use Rattle.std.proofs.Common.{◌++◌, arith}
use Rattle.std.proofs.KnownBytes.{Consumes-trans}
use Rattle.swim_pack.specs.Ends.{Source, Advances, ConsumesSome}

pub Advances-trans : (a b c : Source) → Advances a b → Advances b c → Advances a c
Advances-trans a b c p q =
    let stay = p.1 in
    let more = q.1 in
    let taken : ConsumesSome a.coming c.coming = (p.0.0 ++ q.0.0, Consumes-trans _ _ _ p.0.0 q.0.0 p.0.1 q.0.1) in
    (taken, omega arith)
