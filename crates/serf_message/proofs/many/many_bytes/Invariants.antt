use Rattle.std.proofs.Common.{◌≡◌, ◌-◌, map}
use Rattle.serf_message.specs.Many.{many_at, fresh_bytes_at}
use Rattle.serf_message.proofs.Listing.{before}
use Rattle.serf_message.proofs.many.many_bytes.Given as goal

abbrev pub invariant-loop : goal.invariant-loop
invariant-loop l =
    many_at fresh_bytes_at l.count l.bytes ≡ before (map (λ v. v.items) l.list.items) (many_at fresh_bytes_at (l.count - l.counter) l.rest)
