use Rattle.std.proofs.Common.{◌≡◌, take, All}
use Rattle.memberlist_probes.proofs.captures.Sightings.in_capture.Given as goal

abbrev pub invariant-loop-seen : goal.invariant-loop-seen
invariant-loop-seen l = All (λ seen. seen.capture ≡ l.capture → ⊥) (take l.seen-index l.seen-items)
