-- Captures that are read from their first byte to their last.
use Rattle.std.specs.Prelude.{◌≡◌, ℕ, ◌<◌, List, [], ◌∷◌, slice_index, Some, None, Ok}
use Rattle.swim_pack.specs.Ends.{Source}
use Rattle.swim_pack.specs.Composing.{ReadsAs, lift, same}
use Rattle.capture.specs.declared.record.Record.{Record}
use Rattle.capture.specs.Captures.{CaptureState, NextRecord, begin_at, fault_of, fault_cause}
use Rattle.capture.specs.Pcap.{RecordText}

-- an inlet that has these bytes still to come, and has not failed
abbrev pub holding : List ℕ → Source
holding bytes = record { coming = Some bytes; faults = 0 }

-- each of the numbers is one of a byte
abbrev pub AreBytes : List ℕ → Type 0
AreBytes bytes = (k : ℕ) → slice_index bytes k < 256

-- From here `next` reads these records one by one, and then finds none, with all bytes consumed.
pub data ReadsRecords : CaptureState → Source → List RecordText → Type 0 where
  ended : (at next : CaptureState) (from new : Source) (bytes : List ℕ)
      → NextRecord at from next new bytes (Ok None) → new.coming ≡ Some []
      → ReadsRecords at from []
  found : (at next : CaptureState) (from new : Source) (head : Record) (bytes : List ℕ)
      (records : List RecordText)
      → NextRecord at from next new bytes (Ok (Some head)) → ReadsRecords next new records
      → ReadsRecords at from ((head, bytes) ∷ records)

-- `begin` reads the start of the bytes, and `next` these records and nothing more
abbrev pub ReadsWhole : List ℕ → List RecordText → Type 0
ReadsWhole bytes records = (at : CaptureState) × (from : Source)
    × ReadsAs fault_cause same (lift fault_of begin_at) (holding bytes) from (Ok at)
    × ReadsRecords at from records
