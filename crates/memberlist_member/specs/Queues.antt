-- Broadcasts that wait to be sent.
use Rattle.std.specs.Prelude.{◌≡◌, ◌==◌, ℕ, ◌+◌, ◌-◌, ◌<◌, ◌≤◌, nat_lt, ◌⊎◌, true, false, not, List, [], ◌∷◌, length, map, Option, None, Some, if◌then◌else◌, ⊤}
use Rattle.std.specs.List.{All, Contains, filter, flat_map, list_any, slice_get}
use Rattle.std.specs.Str.{bytes_eq}
use Rattle.std.specs.declared.vec.Vec.{Vec}
use Rattle.std.specs.declared.alloc.Global.{Global}
use Rattle.memberlist_member.specs.declared.queue.Broadcast.{Broadcast}

-- queue.go, Less: one that was sent less often goes first, of these a longer one, of these a newer one
pub data GoesBefore (a b : Broadcast) : Type 0 where
  fewer : a.sent < b.sent → GoesBefore a b
  longer : a.sent ≡ b.sent → length b.bytes.items < length a.bytes.items → GoesBefore a b
  newer : a.sent ≡ b.sent → length a.bytes.items ≡ length b.bytes.items → b.id < a.id
      → GoesBefore a b

-- the room that it takes: its bytes, and so many besides
abbrev pub cost : ℕ → Broadcast → ℕ
cost overhead b = overhead + length b.bytes.items

-- the others: all but the one with this number
abbrev pub without : ℕ → List Broadcast → List Broadcast
without id waiting = filter (λ b. not (id == b.id)) waiting

-- queue.go, GetBroadcasts: the one to pick next waits, fits, and goes before each other that fits
pub record IsNext (overhead room : ℕ) (waiting : List Broadcast) (b : Broadcast) : Type 0 where
  pub waits : Contains waiting b
  pub fits : cost overhead b ≤ room
  pub first : All (λ other. cost overhead other ≤ room → GoesBefore b other) (without b.id waiting)

-- the picks in order, each the next of those that were not picked, for the room that is left; at the
-- end none of these fits, or there are as many picks as may be
abbrev pub Picks : ℕ → ℕ → ℕ → List Broadcast → List Broadcast → Type 0
Picks overhead room most waiting [] = (most ≡ 0) ⊎ All (λ b. room < cost overhead b) waiting
Picks overhead room most waiting (b ∷ picked) = (0 < most) × IsNext overhead room waiting b
    × Picks overhead (room - cost overhead b) (most - 1) (without b.id waiting) picked

-- the numbers of broadcasts
abbrev pub ids_of : List Broadcast → List ℕ
ids_of broadcasts = map (λ b. b.id) broadcasts

-- the bytes of broadcasts
abbrev pub parts_of : List Broadcast → List (List ℕ)
parts_of broadcasts = map (λ b. b.bytes.items) broadcasts

-- a broadcast that was not sent yet
abbrev pub unsent : Vec ℕ Global → Vec ℕ Global → ℕ → Broadcast
unsent subject bytes id = record { subject = subject; bytes = bytes; sent = 0; id = id }

-- one that was sent once more
abbrev pub sent_again : Broadcast → Broadcast
sent_again b = record { subject = b.subject; bytes = b.bytes; sent = b.sent + 1; id = b.id }

-- what stays of a broadcast: one with such a number was sent once more, and leaves at the limit
abbrev pub left_of : ℕ → List ℕ → Broadcast → List Broadcast
left_of limit ids b = if list_any (λ id. id == b.id) ids
    then (if nat_lt (b.sent + 1) limit then sent_again b ∷ [] else []) else b ∷ []

-- what waits after those with these numbers were sent
abbrev pub after_sending : ℕ → List ℕ → List Broadcast → List Broadcast
after_sending limit ids waiting = flat_map (left_of limit ids) waiting

-- what one call does: the parts are the bytes of the picks, and the picks were sent once more
pub record Takes (overhead room most limit : ℕ) (old new : List Broadcast) (parts : List (List ℕ))
    : Type 0 where
  pub picked : List Broadcast
  pub which : Picks overhead room most old picked
  pub bytes : parts ≡ parts_of picked
  pub after : new ≡ after_sending limit (ids_of picked) old

-- these are the numbers and the bytes of the picks
pub record ArePicked (overhead room most : ℕ) (waiting : List Broadcast) (ids : List ℕ)
    (parts : List (List ℕ)) : Type 0 where
  pub picked : List Broadcast
  pub which : Picks overhead room most waiting picked
  pub numbers : ids ≡ ids_of picked
  pub bytes : parts ≡ parts_of picked

-- it fits, and goes after the last one that was picked
abbrev pub CanFollow : List Broadcast → Option ℕ → ℕ → ℕ → Broadcast → Type 0
CanFollow waiting None overhead room b = cost overhead b ≤ room
CanFollow waiting (Some last) overhead room b = (cost overhead b ≤ room)
    × ((l : Broadcast) × (slice_get waiting last ≡ Some l) × GoesBefore l b)

-- of the first so many that can be picked it goes first
abbrev pub IsFirstOf : (Broadcast → Type 0) → List Broadcast → ℕ → ℕ → Type 0
IsFirstOf Can waiting count index = (b : Broadcast) × (slice_get waiting index ≡ Some b) × Can b
    × ((other : ℕ) (c : Broadcast) → other < count → slice_get waiting other ≡ Some c → Can c
    → ¬ GoesBefore c b)

-- the one that goes first of the first so many, or none if none of them can be picked
abbrev pub IsBest : (Broadcast → Type 0) → List Broadcast → ℕ → Option ℕ → Type 0
IsBest Can waiting count (Some index) = IsFirstOf Can waiting count index
IsBest Can waiting count None = (other : ℕ) (c : Broadcast) → other < count
    → slice_get waiting other ≡ Some c → ¬ Can c

-- it takes the place of the one about the same member, or is the last one
abbrev pub put : Broadcast → List Broadcast → List Broadcast
put b [] = b ∷ []
put b (x ∷ xs) = if bytes_eq x.subject.items b.subject.items then b ∷ xs else x ∷ put b xs

-- the broadcast at this index is about this member
abbrev pub IsAbout : List ℕ → List Broadcast → ℕ → Type 0
IsAbout subject waiting index = (b : Broadcast) × (slice_get waiting index ≡ Some b)
    × (bytes_eq b.subject.items subject ≡ true)

-- and it is the first one
abbrev pub IsFirstAbout : List ℕ → List Broadcast → ℕ → Type 0
IsFirstAbout subject waiting index = IsAbout subject waiting index
    × ((other : ℕ) → other < index → ¬ IsAbout subject waiting other)

-- at most one is about each member
abbrev pub AreApart : List Broadcast → Type 0
AreApart [] = ⊤
AreApart (b ∷ bs) =
    All (λ other. bytes_eq other.subject.items b.subject.items ≡ false) bs × AreApart bs
