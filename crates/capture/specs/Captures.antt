-- Captures of both formats, record by record.
use Rattle.std.specs.Prelude.{◌≡◌, ◌⊎◌, ℕ, ◌+◌, ◌-◌, ◌^◌, ◌==◌, if◌then◌else◌, List, [], ◌∷◌, ◌++◌, Option, Some, None, Result, Ok, Err}
use Rattle.swim_pack.specs.Ends.{Source}
use Rattle.swim_pack.specs.Composing.{Cause, ◌>>=◌, gives, refuses, ReadsAs, same}
use Rattle.capture.specs.declared.capture_fault.CaptureFault.{CaptureFault}
use Rattle.capture.specs.declared.capture_fault.CaptureFault.TheVariants.{NotCapture, NoRecord, Cut}
use Rattle.capture.specs.declared.order.Order.{Order}
use Rattle.capture.specs.declared.order.Order.TheVariants.{Big, Little}
use Rattle.capture.specs.declared.pcap.Pcap.{Pcap}
use Rattle.capture.specs.declared.pcap.Precision.{Precision}
use Rattle.capture.specs.declared.pcap.Precision.TheVariants.{Microseconds, Nanoseconds}
use Rattle.capture.specs.declared.reader.Format.{Format}
use Rattle.capture.specs.declared.reader.Format.TheVariants as formats
use Rattle.capture.specs.declared.record.Record.{Record}
use Rattle.capture.specs.declared.stop.Stop.{Stop}
use Rattle.capture.specs.declared.stop.Stop.TheVariants.{End, Fault}
use Rattle.capture.specs.Blocks.{section_text}
use Rattle.capture.specs.Pcap.{RecordText, pcap_behind, pcap_record}
use Rattle.capture.specs.Pcapng.{SectionText, BlockText, section_at, block_at}
use Rattle.capture.specs.Pcapng.BlockText.{section, interface, packet, other}
use Rattle.capture.specs.Taking.{Reading, stop_cause, field, next_part, next_header}

-- what a capture has described so far
pub data CaptureState : Type 0 where
  pcap : Pcap → CaptureState
  pcapng : SectionText → CaptureState

abbrev pub state_of : Format → CaptureState
state_of (formats.Pcap file) = pcap file
state_of (formats.Pcapng now) = pcapng (section_text now)

-- a section that has described nothing
abbrev pub new_section : Order → CaptureState
new_section order = pcapng (record { order = order; interfaces = [] })

-- a pcap file after its magic number
unfoldable pub pcap_file : Order → Precision → Reading CaptureState
pcap_file order precision = do
  file ← pcap_behind order precision
  gives (pcap file)

-- a pcapng file after its first four bytes
unfoldable pub pcapng_file : Reading CaptureState
pcapng_file = do
  claimed ← next_part 4
  order ← section_at claimed
  gives (new_section order)

-- what follows the first four bytes, the highest first
abbrev pub file_of : ℕ → Reading CaptureState
file_of magic =
    if magic == 0xa1b2c3d4 then pcap_file Big Microseconds else
    if magic == 0xd4c3b2a1 then pcap_file Little Microseconds else
    if magic == 0xa1b23c4d then pcap_file Big Nanoseconds else
    if magic == 0x4d3cb2a1 then pcap_file Little Nanoseconds else
    if magic == 0x0a0d0d0a then pcapng_file else refuses (Fault NotCapture)

-- the start of a capture
unfoldable pub begin_at : Reading CaptureState
begin_at = do
  magic ← next_header 4
  file_of (field Big 0 4 magic)

-- what a section has described after a block, and the record in the block
abbrev pub behind_block : SectionText → BlockText → CaptureState × Option RecordText
behind_block now (section order) = (new_section order, None)
behind_block now (interface on) =
    (pcapng (record now { interfaces = now.interfaces ++ (on ∷ []) }), None)
behind_block now (packet head bytes) = (pcapng now, Some (head, bytes))
behind_block now other = (pcapng now, None)

-- a step: a record of pcap, or a block of pcapng
unfoldable pub step_at : CaptureState → Reading (CaptureState × Option RecordText)
step_at (pcap file) = do
  read ← pcap_record file
  gives (pcap file, Some read)
step_at (pcapng now) = do
  block ← block_at now
  gives (behind_block now block)

-- the result of a step
abbrev pub step_text : CaptureState → List ℕ → Option Record → CaptureState × Option RecordText
step_text next bytes None = (next, None)
step_text next bytes (Some head) = (next, Some (head, bytes))

-- the fault of a stop at which more had to come
abbrev pub fault_of : Stop → CaptureFault
fault_of End = Cut
fault_of (Fault fault) = fault

-- what causes a fault
abbrev pub fault_cause : CaptureFault → Cause
fault_cause fault = stop_cause (Fault fault)

-- the result of a step
abbrev pub Step : Type 0
Step = CaptureState × Option RecordText

-- n steps without a record lead from one place of a capture to another
pub data Passes (start : CaptureState) (old : Source) : ℕ → CaptureState → Source → Type 0 where
  none : Passes start old 0 start old
  more : (n : ℕ) (at : CaptureState) (from : Source) (next : CaptureState) (new : Source)
      → Passes start old n at from → ReadsAs {X = Step} stop_cause same (step_at at) from new (Ok (next, None))
      → Passes start old (n + 1) next new

-- the step that a call ends with; without a record it changes nothing
abbrev pub Ends : ℕ → CaptureState → Source → CaptureState → Source → List ℕ → Result (Option Record) CaptureFault → Type 0
Ends n at from next new bytes (Ok (Some head)) =
    ReadsAs {X = Step} stop_cause same (step_at at) from new (Ok (next, Some (head, bytes)))
Ends n at from next new bytes (Ok None) =
    ReadsAs {X = Step} stop_cause same (step_at at) from new (Err End) × (next ≡ at)
Ends n at from next new bytes (Err fault) =
    (ReadsAs {X = Step} stop_cause same (step_at at) from new (Err (Fault fault))
    ⊎ ((fault ≡ NoRecord) × (n ≡ 2 ^ 64 - 1))) × (next ≡ at)

-- What the next record is: steps without one, and then the first that has one, finds the capture's
-- end, or a fault.
pub record NextRecord (start : CaptureState) (old : Source) (next : CaptureState) (new : Source) (bytes : List ℕ)
    (result : Result (Option Record) CaptureFault) : Type 0 where
  pub count : ℕ
  pub at : CaptureState
  pub from : Source
  pub passed : Passes start old count at from
  pub last : Ends count at from next new bytes result
