-- Which record of several captures is next, and what was heard of them.
use Rattle.std.specs.Prelude.{◌≡◌, ◌⊎◌, ◌↔◌, ◌<◌, ◌-◌, ◌/◌, ◌^◌, ℕ, true, List, [], ◌∷◌, ◌++◌, Contains, Option, Some, None, Ok, Err, IsSome, IfSome, length, slice_get, slice_set, unwrap_or}
use Rattle.swim_pack.specs.Composing.{ReadsAs, same, lift}
use Rattle.swim_pack.specs.Ends.{Reader, Source as Bytes}
use Rattle.capture.specs.declared.capture_fault.CaptureFault.TheVariants.{Cut}
use Rattle.capture.specs.declared.record.Record.{Record}
use Rattle.capture.specs.Captures.{CaptureState, NextRecord, begin_at, fault_cause, fault_of}
use Rattle.capture.specs.Pcap.{RecordText}
use Rattle.swimwatch.specs.declared.input.sources.Reading.{Reading}
use Rattle.swimwatch.specs.declared.input.sources.Source.{Source}
use Rattle.swimwatch.specs.declared.input.sources.Sources.{Sources}
use Rattle.swimwatch.specs.declared.input.turns.Turn.{Turn}
use Rattle.swimwatch.specs.declared.listening.views.Views.{Views}
use Rattle.swimwatch.specs.declared.text.window.Window.{Window}
use Rattle.swimwatch.specs.Seated.{EachHas, put}
use Rattle.swimwatch.specs.Turns.{IsFirst}
use Rattle.swimwatch.specs.Viewed.{choice_in, first_view}

-- the next record of a capture, or that it has none: it ends here, or in the middle of a record
abbrev pub Finds : CaptureState → Bytes → CaptureState → Bytes → List ℕ → Option Record → Type 0
Finds state from next to bytes (Some r) = NextRecord state from next to bytes (Ok (Some r))
Finds state from next to bytes None =
    NextRecord state from next to bytes (Ok None) ⊎ NextRecord state from next to bytes (Err Cut)

-- what the inlet of a capture in a file, or on standard input, has still to give
abbrev pub bytes_of : Reader → Bytes
bytes_of inlet = record { coming = inlet.coming; faults = inlet.faults }

-- such a capture that is open
abbrev pub Open : Type 0
Open = Reading Reader

module _ {I : Type 0} (seen : I → Bytes) where
  -- the record of an open capture is the one after that
  abbrev pub ComesAfter : Reading I → Reading I → Type 0
  ComesAfter old new = Finds old.reader (seen old.inlet.inlet) new.reader (seen new.inlet.inlet)
      new.bytes.items (Some new.record)

  -- there is none after that
  abbrev pub IsLast : Reading I → Type 0
  IsLast reading = (next : CaptureState) × (to : Bytes) × (bytes : List ℕ)
      × Finds reading.reader (seen reading.inlet.inlet) next to bytes None

-- the capture that this is of is open, and this is its record
abbrev pub IsOpenAt : List Source → ℕ → Open → Type 0
IsOpenAt all place reading =
    (source : Source) × (slice_get all place ≡ Some source) × (source.reading ≡ Some reading)

-- The record that is next: that of the capture whose turn is the first one.
abbrev pub IsNext : Sources → ℕ → RecordText → Type 0
IsNext sources place r = (turn : Turn) × IsFirst sources.turns.waiting.keys turn
    × (turn.place ≡ place) × (reading : Open) × IsOpenAt sources.all.items place reading
    × (r ≡ (reading.record, reading.bytes.items))

-- there is none
abbrev pub HasNoNext : Sources → Type 0
HasNoNext sources = (place : ℕ) (r : RecordText) → IsNext sources place r → ⊥

-- when the record of an open capture was captured
abbrev pub time_in : {I : Type 0} → Reading I → ℕ
time_in reading = unwrap_or reading.record.time 0

-- a capture has its next record, captured at this time, or it has none and is closed
abbrev pub GoesOn : Source → Source → Option ℕ → Type 0
GoesOn old new (Some time) = (was : Open) × (now : Open) × (old.reading ≡ Some was)
    × (new.reading ≡ Some now) × ComesAfter bytes_of was now × (time ≡ time_in now)
    × (new.is_done ≡ old.is_done)
GoesOn old new None =
    IfSome old.reading (IsLast bytes_of) × (new.reading ≡ None) × (new.is_done ≡ true)

-- the capture at this index goes on; the others stay
abbrev pub ReadsAt : ℕ → List Source → List Source → Option ℕ → Type 0
ReadsAt place old new time = (was : Source) × (now : Source) × (slice_get old place ≡ Some was)
    × (new ≡ slice_set old place now) × (now.word ≡ was.word) × GoesOn was now time

abbrev pub turn_at : ℕ → ℕ → Turn
turn_at time place = record { time = time; place = place }

-- one turn more
abbrev pub HasAlso : Turn → List Turn → List Turn → Type 0
HasAlso turn old new =
    (other : Turn) → Contains new other ↔ ((turn ≡ other) ⊎ Contains old other)

-- the capture at this index waits for the turn of its next record, if it has one
abbrev pub Waits : ℕ → Option ℕ → List Turn → List Turn → Type 0
Waits place (Some time) old new = HasAlso (turn_at time place) old new
Waits place None old new = new ≡ old

-- the start of a capture has described this
abbrev pub IsStart : Bytes → Bytes → CaptureState → Type 0
IsStart from to state = ReadsAs fault_cause same (lift fault_of begin_at) from to (Ok state)

-- the start is cut short
abbrev pub IsCutStart : Bytes → Bytes → Type 0
IsCutStart from to =
    ReadsAs {X = CaptureState} fault_cause same (lift fault_of begin_at) from to (Err Cut)

-- a capture of these bytes is open, and has its first record, or it has none
abbrev pub Begins : {I : Type 0} → (I → Bytes) → Bytes → Option (Reading I) → Type 0
Begins seen from (Some reading) = (at : Bytes) × (state : CaptureState) × IsStart from at state
    × Finds state at reading.reader (seen reading.inlet.inlet) reading.bytes.items
    (Some reading.record)
Begins seen from None = (at : Bytes) × (IsCutStart from at
    ⊎ ((state : CaptureState) × (next : CaptureState) × (to : Bytes) × (bytes : List ℕ)
    × IsStart from at state × Finds state at next to bytes None))

-- a capture was opened
abbrev pub IsOpened : Source → Source → Type 0
IsOpened old new = (new.word ≡ old.word) × (new.is_done ≡ old.is_done)
    × ((from : Bytes) × Begins bytes_of from new.reading)

-- the capture whose turn it is is open, as far as there is one
abbrev pub IsReady : Sources → Type 0
IsReady sources = (turn : Turn) (source : Source) → IsFirst sources.turns.waiting.keys turn
    → slice_get sources.all.items turn.place ≡ Some source → IsSome source.reading

-- the capture whose turn it is was closed, and was opened
abbrev pub OpensFirst : Sources → Sources → Type 0
OpensFirst old new = (turn : Turn) × (was : Source) × (now : Source)
    × IsFirst old.turns.waiting.keys turn × (slice_get old.all.items turn.place ≡ Some was)
    × (was.reading ≡ None) × (new.all.items ≡ slice_set old.all.items turn.place now)
    × IsOpened was now

-- the capture whose turn it is is open now; the others stay
abbrev pub Opens : Sources → Sources → Type 0
Opens old new = (new.turns ≡ old.turns) × (new.is_live ≡ old.is_live)
    × ((IsReady old × (new.all.items ≡ old.all.items)) ⊎ OpensFirst old new)

-- The first turn is over: its capture goes on, and waits for its next record.
abbrev pub ReadsOn : Sources → Sources → Type 0
ReadsOn old new = (turn : Turn) × (left : List Turn) × (time : Option ℕ) × (mid : Sources)
    × IsFirst old.turns.waiting.keys turn × (old.turns.waiting.keys ≡ turn ∷ left)
    × ReadsAt turn.place old.all.items mid.all.items time
    × Waits turn.place time left mid.turns.waiting.keys × (mid.is_live ≡ old.is_live)
    × Opens mid new

-- a capture has its turn
abbrev pub HasTurn : List Turn → ℕ → Type 0
HasTurn turns place = (turn : Turn) × Contains turns turn × (turn.place ≡ place)

-- no capture is forgotten: each waits for its turn, or is over
abbrev pub AllWait : Sources → Type 0
AllWait sources = (place : ℕ) (source : Source) → slice_get sources.all.items place ≡ Some source
    → (source.is_done ≡ true) ⊎ HasTurn sources.turns.waiting.keys place

-- listening is over at this record
abbrev pub IsOver : Window → Record → Type 0
IsOver window r = (nanos : ℕ) × (end : ℕ) × (r.time ≡ Some nanos) × (window.end ≡ Some end)
    × (end < nanos / 1000)

-- the record was captured after this time, in microseconds
abbrev pub IsLater : ℕ → Record → Type 0
IsLater until r = (nanos : ℕ) × (r.time ≡ Some nanos) × (until < nanos / 1000)

abbrev pub IsLate : Window → ℕ → Record → Type 0
IsLate window until r = IsOver window r ⊎ IsLater until r

-- the views heard these records
abbrev pub AreHeard : Views → List (List RecordText) → Type 0
AreHeard views heard = EachHas (choice_in views.seats.setting) (first_view views.seats.setting)
    heard views.seats.seats.items

-- The records of captures are heard one after the other, each when it is next, and read on after.
pub data HearsSources (window : Window) (until : ℕ) (old : Sources) (heard : List (List RecordText)) :
    List (ℕ × RecordText) → Sources → List (List RecordText) → Type 0
  where
    none : HearsSources window until old heard [] old heard
    one_more : (read : List (ℕ × RecordText)) (mid : Sources) (before : List (List RecordText))
        (place : ℕ) (r : RecordText) (view : ℕ) (new : Sources)
        → HearsSources window until old heard read mid before → IsNext mid place r
        → (IsLate window until r.0 → ⊥) → ReadsOn mid new
        → HearsSources window until old heard (read ++ (place, r) ∷ []) new (put before view r)

-- one record was heard, and read on after
abbrev pub HearsOne : Window → ℕ → Sources → List (List RecordText) → Sources → Views → Type 0
HearsOne window until old heard new views = (place : ℕ) × (r : RecordText) × (view : ℕ)
    × IsNext old place r × (IsLate window until r.0 → ⊥) × ReadsOn old new
    × AreHeard views (put heard view r)

-- nothing more is to be heard
abbrev pub Stops : Window → ℕ → Sources → Type 0
Stops window until sources = HasNoNext sources
    ⊎ ((place : ℕ) × (r : RecordText) × IsNext sources place r × IsLate window until r.0)

-- All records up to a time are heard, unless they are more than can be counted, and no capture is
-- forgotten.
abbrev pub HearsUntil : Window → ℕ → Sources → List (List RecordText) → Sources → Views → Type 0
HearsUntil window until old heard new views = (read : List (ℕ × RecordText))
    × (now : List (List RecordText)) × HearsSources window until old heard read new now
    × (AllWait old → AllWait new) × AreHeard views now
    × (Stops window until new ⊎ (length read ≡ 2 ^ 64 - 1))
