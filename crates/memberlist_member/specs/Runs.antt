-- What happens to a queue that is empty at first.
use Rattle.std.specs.Prelude.{◌==◌, ℕ, ◌+◌, ◌≤◌, List, [], ◌∷◌, count_by}
use Rattle.std.specs.declared.vec.Vec.{Vec}
use Rattle.std.specs.declared.alloc.Global.{Global}
use Rattle.memberlist_member.specs.declared.queue.Broadcast.{Broadcast}
use Rattle.memberlist_member.specs.Queues.{Picks, after_sending, ids_of, put, unsent}

-- a broadcast was added, or these were picked for a datagram
pub data Event : Type 0 where
  added : Broadcast → Event
  taken : List Broadcast → Event

-- what happened, the last thing first; what waits now; and the number of the next broadcast. No
-- datagram had a greater limit than this one
pub data Run (limit : ℕ) : List Event → List Broadcast → ℕ → Type 0 where
  -- nothing happened yet
  begins : Run limit [] [] 0
  -- a broadcast is added
  pushes : {events : List Event} {waiting : List Broadcast} {next : ℕ}
      (subject bytes : Vec ℕ Global) → Run limit events waiting next
      → Run limit (added (unsent subject bytes next) ∷ events)
      (put (unsent subject bytes next) waiting) (next + 1)
  -- broadcasts are picked for a datagram
  takes : {events : List Event} {waiting : List Broadcast} {next : ℕ}
      (overhead room most until : ℕ) (picked : List Broadcast)
      → Run limit events waiting next → until ≤ limit → Picks overhead room most waiting picked
      → Run limit (taken picked ∷ events) (after_sending until (ids_of picked) waiting) next

-- how often the broadcast with this number was picked
abbrev pub times : ℕ → List Event → ℕ
times id [] = 0
times id (added b ∷ events) = times id events
times id (taken picked ∷ events) = count_by (λ b. b.id == id) picked + times id events
