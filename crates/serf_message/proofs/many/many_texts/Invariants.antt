use Rattle.std.proofs.Common.{◌≡◌, ◌-◌, map}
use Rattle.serf_message.specs.Many.{many_at}
use Rattle.serf_message.specs.Reading.{text_at}
use Rattle.serf_message.proofs.Listing.{before}
use Rattle.serf_message.proofs.many.many_texts.Given as goal

abbrev pub invariant-loop : goal.invariant-loop
invariant-loop l =
    many_at text_at l.count l.bytes ≡ before (map (λ v. v.items) l.list.items) (many_at text_at (l.count - l.counter) l.rest)
