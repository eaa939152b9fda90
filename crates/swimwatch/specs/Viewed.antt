-- What a view hears of the captures that it follows.
use Rattle.std.specs.Prelude.{◌≡◌, ℕ, false, List, [], ◌∷◌, ◌++◌, fold, Some}
use Rattle.swim_claim.specs.declared.claim.Claim.{Claim}
use Rattle.swim_claim.specs.declared.claim.Claim.TheVariants as claim
use Rattle.capture.specs.declared.record.Record.{Record}
use Rattle.capture.specs.Captured.{Captured}
use Rattle.capture.specs.Pcap.{RecordText}
use Rattle.memberlist_view.specs.declared.heard.Said.{Said}
use Rattle.memberlist_view.specs.declared.heard.Said.TheVariants.{Dead}
use Rattle.memberlist_view.specs.Heard.{said_in_record}
use Rattle.memberlist_view.specs.Told.{ViewValue, view_after}
use Rattle.swimwatch.specs.declared.listening.seat.Seat.{Seat}
use Rattle.swimwatch.specs.declared.listening.setting.Setting.{Setting}
use Rattle.swimwatch.specs.Connected.{Direction, Past, past_of, MovesOn, Follows}
use Rattle.swimwatch.specs.Filtered.{Choice}
use Rattle.swimwatch.specs.Shown.{HearsRecord}
use Rattle.swimwatch.specs.Ways.{PacketText, AreKept}

-- what a record of the table to begin with says: a death in it is no suspicion, and nobody who is
-- named says it
abbrev pub said_at_start : Claim → Said
said_at_start (claim.Alive name inc details) =
    said_in_record (claim.Alive name inc details) false
said_at_start (claim.Suspect name inc) = said_in_record (claim.Suspect name inc) false
said_at_start (claim.Confirm name inc) = Dead name inc (Some (45 ∷ []))
said_at_start (claim.Leave name inc) = said_in_record (claim.Leave name inc) false

-- a view after such records, at a time
abbrev pub begin_with : ℕ → ViewValue → List Claim → ViewValue
begin_with time =
    fold (λ view claim. view_after view (record { time = time; said = said_at_start claim }))

-- what was chosen
abbrev pub choice_in : Setting → Choice
choice_in s = record {
  clear = s.chosen.now.asking.clear;
  keys = s.keys.now;
  label = s.chosen.now.asking.label.items;
  until = s.window.until;
  ports = s.chosen.now.ports.items;
}

-- the view before the first record
abbrev pub first_view : Setting → ViewValue
first_view s =
    begin_with s.window.begun (record { wait = s.chosen.now.wait; entries = [] }) s.start.now

-- The records of captures are heard one after the other.
pub data HearsCaptures (s : Choice) (first : ViewValue) : List RecordText → Past → Type 0 where
  none : HearsCaptures s first [] (past_of [] [] [] [] first)
  one_more : (records : List RecordText) (old : Past) (r : Record) (bytes : List ℕ) (new : Past)
      → HearsCaptures s first records old → HearsRecord s r bytes old new
      → HearsCaptures s first (records ++ (r, bytes) ∷ []) new

-- a view has heard these records so far
abbrev pub HasHeard : Choice → ViewValue → List RecordText → Seat → Type 0
HasHeard s first records seat = (segments : List Captured) × (packets : List PacketText)
    × (read : List Direction) × HearsCaptures s first records (past_of segments packets read
    seat.traffic.connections.flows seat.watch.listener.view)
    × Follows segments read seat.traffic.connections × AreKept packets seat.traffic.recent

-- a view has heard these records, and then all connections that were open at the end
abbrev pub HasEnded : Choice → ViewValue → List RecordText → Seat → Type 0
HasEnded s first records seat = (last end : Past) × HearsCaptures s first records last
    × MovesOn s.clear s.keys last end × (end.flows ≡ []) × (end.view ≡ seat.watch.listener.view)
