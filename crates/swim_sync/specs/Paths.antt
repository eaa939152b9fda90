-- Paths of events from node to node, and where a claim entered a cluster.
use Rattle.std.specs.Prelude.{◌≡◌, ◌≢◌, ◌⊎◌, ℕ, zero, suc, ◌<◌, ◌≤◌, Some, List, length, take, slice_get, Contains}
use Rattle.swim_claim.specs.declared.claim.Claim.{Claim}
use Rattle.swim_sync.specs.declared.event.Event.{Event}
use Rattle.swim_sync.specs.declared.event.Event.TheVariants.{Hear, HearAll, Exchange, Half, Refute}
use Rattle.swim_sync.specs.Heard.{Member, heard, heard_by, refutation_of}

-- x and y are two different nodes
abbrev pub AreTwoNodes : ℕ → ℕ → ℕ → Type 0
AreTwoNodes nodes x y = (x < nodes) × (y < nodes) × (x ≢ y)

-- in the event node y takes in what node x has
abbrev pub Leads : ℕ → Event → ℕ → ℕ → Type 0
Leads nodes (Hear k claim) x y = ⊥
Leads nodes (HearAll k claims) x y = ⊥
Leads nodes (Exchange j k) x y = AreTwoNodes nodes x y × (((x ≡ j) × (y ≡ k)) ⊎ ((x ≡ k) × (y ≡ j)))
Leads nodes (Half j k) x y = AreTwoNodes nodes x y × (x ≡ j) × (y ≡ k)
Leads nodes (Refute k) x y = ⊥

-- k is m, or events at ascending indices from p on lead in turn from m to k
pub data Path (nodes : ℕ) (events : List Event) : ℕ → ℕ → ℕ → Type 0 where
  there : {p k : ℕ} → Path nodes events p k k
  by : {p m k : ℕ} (place x : ℕ) (event : Event) → p ≤ place → slice_get events place ≡ Some event
      → Leads nodes event m x → Path nodes events (suc place) x k → Path nodes events p m k

-- the claim enters node m from outside with this event; before it the nodes had heard these lists
abbrev pub Brings : List Member → List (List Claim) → Event → Claim → ℕ → Type 0
Brings members lists (Hear k claim) c m = (m ≡ k) × (m < length lists) × (c ≡ claim)
Brings members lists (HearAll k claims) c m = (m ≡ k) × (m < length lists) × Contains claims c
Brings members lists (Exchange j k) c m = ⊥
Brings members lists (Half j k) c m = ⊥
Brings members lists (Refute k) c m = (m ≡ k) × (m < length lists)
    × Contains (refutation_of members lists k) c

-- if p is 0, node m had heard the claim at the start; otherwise the claim entered node m with the
-- p-th event
abbrev pub Entered : List Member → List (List Claim) → List Event → Claim → ℕ → ℕ → Type 0
Entered members start events c m zero = Contains (heard_by start m) c
Entered members start events c m (suc place) =
    (event : Event) × (slice_get events place ≡ Some event)
    × Brings members (heard members start (take place events)) event c m

-- the claim entered some node, and from there a path leads to node k
abbrev pub Reaches : List Member → List (List Claim) → List Event → Claim → ℕ → Type 0
Reaches members start events c k =
    (m : ℕ) × (p : ℕ) × Entered members start events c m p × Path (length start) events p m k
