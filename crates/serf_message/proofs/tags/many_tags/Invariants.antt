use Rattle.std.proofs.Common.{◌≡◌, ◌-◌, map}
use Rattle.serf_message.specs.Many.{many_at}
use Rattle.serf_message.specs.Tags.{tag_at, tag_value}
use Rattle.serf_message.proofs.Listing.{before}
use Rattle.serf_message.proofs.tags.many_tags.Given as goal

abbrev pub invariant-loop : goal.invariant-loop
invariant-loop l =
    many_at tag_at l.count l.bytes ≡ before (map tag_value l.list.items) (many_at tag_at (l.count - l.counter) l.rest)
