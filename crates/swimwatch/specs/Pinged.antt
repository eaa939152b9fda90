-- Who is pinged in a datagram, and by whom.
use Rattle.std.specs.Prelude.{◌≡◌, ℕ, Bool, ◌||◌, List, []}
use Rattle.std.specs.Borrow.{Bor}
use Rattle.std.specs.BTreeSet.{BTreeSet, contains_by}
use Rattle.std.specs.Cmp.Lexicographic.{slice_cmp}
use Rattle.std.specs.List.{list_any}
use Rattle.std.specs.Ordering.{nat_cmp, ordering_then}
use Rattle.memberlist_message.specs.declared.message.Message.{Message}
use Rattle.swimwatch.specs.Views.{warns}

-- the set has the ping of this suspect by this accuser
abbrev pub is_pinged : BTreeSet (Bor (List ℕ) × Bor (List ℕ)) → List ℕ → List ℕ → Bool
is_pinged pairs suspect accuser =
    contains_by (λ k. ordering_then (slice_cmp nat_cmp suspect k.0.now) (slice_cmp nat_cmp accuser k.1.now)) pairs

-- the set has the pings among these messages, those of nobody who is named as of an empty name
abbrev pub HasPings : BTreeSet (Bor (List ℕ) × Bor (List ℕ)) → List Message → Type 0
HasPings pairs messages = (suspect accuser : List ℕ)
    → (is_pinged pairs suspect accuser || is_pinged pairs suspect [])
    ≡ list_any (λ m. warns suspect accuser m) messages
