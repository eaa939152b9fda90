-- A capture of the pcapng format, byte by byte (draft-ietf-opsawg-pcapng).
use Rattle.std.specs.Prelude.{◌≡◌, ◌≢◌, ℕ, ◌+◌, ◌*◌, ◌%◌, ◌^◌, ◌<◌, ◌≤◌, List, [], ◌∷◌, ◌++◌, length}
use Rattle.std.specs.Prelude.{slice_get, Some, None}
use Rattle.capture.specs.declared.clock.Clock.{Clock}
use Rattle.capture.specs.declared.interface.Interface.{Interface}
use Rattle.capture.specs.declared.order.Order.{Order}
use Rattle.capture.specs.declared.record.Record.{Record}
use Rattle.capture.specs.Clock.{default_clock, time_of, with_option}
use Rattle.capture.specs.Pcap.{RecordText}
use Rattle.capture.specs.PcapText.{number_bytes}
use Rattle.capture.specs.Pcapng.{BlockText, BlockText as blocks, SectionText, snapped}

-- Section 3.1, General Block Structure: the type, the total length, the body, and the total length
-- again
abbrev pub block_bytes : Order → ℕ → List ℕ → List ℕ
block_bytes order kind body =
    number_bytes order 4 kind ++ number_bytes order 4 (12 + length body) ++ body
    ++ number_bytes order 4 (12 + length body)

-- the body is padded to 32 bits, and its length fits
abbrev pub IsBody : List ℕ → Type 0
IsBody body = (length body % 4 ≡ 0) × (12 + length body < 2 ^ 32)

-- Section 4.1, Section Header Block: the byte-order magic, major version 1, a minor version, the
-- section's length, and options
abbrev pub section_body : Order → ℕ → ℕ → List ℕ → List ℕ
section_body order minor size options =
    number_bytes order 4 0x1a2b3c4d ++ number_bytes order 2 1 ++ number_bytes order 2 minor
    ++ number_bytes order 8 size ++ options

pub data IsSection (order : Order) : List ℕ → Type 0 where
  header : (minor size : ℕ) (options : List ℕ) → IsBody (section_body order minor size options)
      → IsSection order (block_bytes order 0x0a0d0d0a (section_body order minor size options))

-- Section 3.5, Options: a code, the length of the value, the value, and padding to 32 bits
abbrev pub option_bytes : Order → ℕ → List ℕ → List ℕ → List ℕ
option_bytes order code value padding =
    number_bytes order 2 code ++ number_bytes order 2 (length value) ++ value ++ padding

-- What a clock becomes by options. They end with the bytes, or with an option of code 0.
pub data OptionsText (order : Order) : Clock → List ℕ → Clock → Type 0 where
  nothing : (clock : Clock) → OptionsText order clock [] clock
  ended : (clock : Clock) (rest : List ℕ) → 2 ≤ length rest
      → OptionsText order clock (number_bytes order 2 0 ++ rest) clock
  option : (old new : Clock) (code : ℕ) (value padding more : List ℕ) → 0 < code → code < 2 ^ 16
      → length value < 2 ^ 16 → length padding < 4 → (length value + length padding) % 4 ≡ 0
      → OptionsText order (with_option order code value old) more new
      → OptionsText order old (option_bytes order code value padding ++ more) new

-- Section 4.2, Interface Description Block: the link type, two reserved bytes, the snap length, and
-- options
abbrev pub interface_body : Order → ℕ → ℕ → ℕ → List ℕ → List ℕ
interface_body order link reserved snap options =
    number_bytes order 2 link ++ number_bytes order 2 reserved
    ++ number_bytes order 4 snap ++ options

-- Section 4.3, Enhanced Packet Block: an interface's number, the upper and the lower half of the
-- time, the captured and the original length, the captured bytes, and what follows them
abbrev pub enhanced_body : Order → ℕ → ℕ → ℕ → ℕ → List ℕ → List ℕ → List ℕ
enhanced_body order number high low original captured more =
    number_bytes order 4 number ++ number_bytes order 4 high ++ number_bytes order 4 low
    ++ number_bytes order 4 (length captured) ++ number_bytes order 4 original ++ captured ++ more

-- Appendix A, Packet Block: the same, but the number has 2 bytes, and a
-- count of drops follows it
abbrev pub obsolete_body : Order → ℕ → ℕ → ℕ → ℕ → ℕ → List ℕ → List ℕ → List ℕ
obsolete_body order number drops high low original captured more =
    number_bytes order 2 number ++ number_bytes order 2 drops
    ++ number_bytes order 4 high ++ number_bytes order 4 low
    ++ number_bytes order 4 (length captured) ++ number_bytes order 4 original ++ captured ++ more

-- Section 4.4, Simple Packet Block: the original length, the captured bytes, and what follows them
abbrev pub simple_body : Order → ℕ → List ℕ → List ℕ → List ℕ
simple_body order original captured more = number_bytes order 4 original ++ captured ++ more

-- a packet with a time on an interface
abbrev pub timed_record : Interface → ℕ → ℕ → ℕ → ℕ → Record
timed_record on number high low original = record {
  time = Some (time_of on.clock (high * 2 ^ 32 + low));
  link = on.link;
  interface = Some number;
  original = original;
}

-- a packet without a time, on the first interface
abbrev pub untimed_record : Interface → ℕ → Record
untimed_record on original = record {
  time = None;
  link = on.link;
  interface = Some 0;
  original = original;
}

-- a block of another type
abbrev pub IsOther : ℕ → Type 0
IsOther kind =
    (kind ≢ 0x0a0d0d0a) × (kind ≢ 1) × (kind ≢ 2) × (kind ≢ 3) × (kind ≢ 6) × (kind < 2 ^ 32)

-- The bytes are a block of a section, and what it holds. A packet has at most 262,144 captured
-- bytes, an interface as many of options, and a section at most 4,096 interfaces (own).
pub data IsBlock (now : SectionText) : List ℕ → BlockText → Type 0 where
  section : (order : Order) (bytes : List ℕ) → IsSection order bytes
      → IsBlock now bytes (blocks.section order)
  interface : (on : Interface) (reserved : ℕ) (options : List ℕ)
      → on.link < 2 ^ 16 → on.snap < 2 ^ 32 → OptionsText now.order default_clock options on.clock
      → length options ≤ 262144 → length now.interfaces < 4096
      → IsBody (interface_body now.order on.link reserved on.snap options)
      → IsBlock now (block_bytes now.order 1
      (interface_body now.order on.link reserved on.snap options))
      (blocks.interface on)
  enhanced : (on : Interface) (number high low original : ℕ) (captured more : List ℕ)
      → slice_get now.interfaces number ≡ Some on → number < 2 ^ 32 → high < 2 ^ 32
      → low < 2 ^ 32 → original < 2 ^ 32 → length captured ≤ 262144
      → IsBody (enhanced_body now.order number high low original captured more)
      → IsBlock now
      (block_bytes now.order 6 (enhanced_body now.order number high low original captured more))
      (blocks.packet (timed_record on number high low original) captured)
  obsolete : (on : Interface) (number drops high low original : ℕ) (captured more : List ℕ)
      → slice_get now.interfaces number ≡ Some on → number < 2 ^ 16 → high < 2 ^ 32
      → low < 2 ^ 32 → original < 2 ^ 32 → length captured ≤ 262144
      → IsBody (obsolete_body now.order number drops high low original captured more)
      → IsBlock now
      (block_bytes now.order 2
      (obsolete_body now.order number drops high low original captured more))
      (blocks.packet (timed_record on number high low original) captured)
  simple : (on : Interface) (original : ℕ) (captured more : List ℕ)
      → slice_get now.interfaces 0 ≡ Some on → original < 2 ^ 32
      → length captured ≡ snapped on.snap original → length captured ≤ 262144
      → IsBody (simple_body now.order original captured more)
      → IsBlock now (block_bytes now.order 3 (simple_body now.order original captured more))
      (blocks.packet (untimed_record on original) captured)
  other : (kind : ℕ) (body : List ℕ) → IsOther kind → IsBody body
      → IsBlock now (block_bytes now.order kind body) blocks.other

-- what a section has described after a block
abbrev pub section_after : SectionText → BlockText → SectionText
section_after now (blocks.section order) = record { order = order; interfaces = [] }
section_after now (blocks.interface on) =
    record now { interfaces = now.interfaces ++ (on ∷ []) }
section_after now (blocks.packet head bytes) = now
section_after now blocks.other = now

-- the records in front of others, if a block has one
abbrev pub with_record : BlockText → List RecordText → List RecordText
with_record (blocks.packet head bytes) records = (head, bytes) ∷ records
with_record (blocks.section order) records = records
with_record (blocks.interface on) records = records
with_record blocks.other records = records

-- the bytes are blocks with these records
pub data BlocksText : SectionText → List ℕ → List RecordText → Type 0 where
  nothing : (now : SectionText) → BlocksText now [] []
  block : (now : SectionText) (what : BlockText) (bytes more : List ℕ) (records : List RecordText)
      → IsBlock now bytes what → BlocksText (section_after now what) more records
      → BlocksText now (bytes ++ more) (with_record what records)

-- the bytes are a section header and blocks with these records
pub data PcapngText : List ℕ → List RecordText → Type 0 where
  file : (order : Order) (bytes more : List ℕ) (records : List RecordText) → IsSection order bytes
      → BlocksText (record { order = order; interfaces = [] }) more records
      → PcapngText (bytes ++ more) records
