-- The exchanges that level a cluster: after them each node has heard what any node had.
use Rattle.std.specs.Prelude.{ℕ, ◌-◌, List, ◌++◌, map}
use Rattle.std.specs.List.{flat_map, range_with_len}
use Rattle.swim_claim.specs.declared.claim.Claim.{Claim}
use Rattle.swim_sync.specs.declared.event.Event.{Event}
use Rattle.swim_sync.specs.declared.event.Event.TheVariants.{Exchange}

-- node 0 with each of this many nodes, from node 1 on
abbrev pub meet_each : ℕ → List Event
meet_each count = map (λ k. Exchange 0 k) (range_with_len 1 count)

-- node 0 with each other node, and again with each of them except the last
abbrev pub level_list : ℕ → List Event
level_list nodes = meet_each (nodes - 1) ++ meet_each (nodes - 2)

-- all lists one after the other
abbrev pub all_heard : List (List Claim) → List Claim
all_heard lists = flat_map (λ claims. claims) lists
