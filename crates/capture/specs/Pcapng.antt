-- Files of the pcapng format (draft-ietf-opsawg-pcapng).
use Rattle.std.specs.Prelude.{ℕ, ◌+◌, ◌-◌, ◌*◌, ◌%◌, ◌^◌, ◌==◌, min, nat_lt, if◌then◌else◌, List, take, drop, length, slice_get, Some, None}
use Rattle.swim_pack.specs.Composing.{◌>>=◌, gives, refuses, some_or}
use Rattle.capture.specs.declared.capture_fault.CaptureFault.TheVariants.{NotCapture, BadBlock, UnknownInterface, TooManyInterfaces}
use Rattle.capture.specs.declared.clock.Clock.{Clock}
use Rattle.capture.specs.declared.interface.Interface.{Interface}
use Rattle.capture.specs.declared.order.Order.{Order}
use Rattle.capture.specs.declared.order.Order.TheVariants.{Big}
use Rattle.capture.specs.declared.record.Record.{Record}
use Rattle.capture.specs.declared.stop.Stop.TheVariants.{Fault}
use Rattle.capture.specs.Clock.{clock_of, time_of}
use Rattle.capture.specs.Taking.{Reading, order_of, field, next_part, next_header, skipped, captured_at, checked_version}

-- what a section has described so far
pub record SectionText : Type 0 where
  pub order : Order
  pub interfaces : List Interface

-- what a block holds
pub data BlockText : Type 0 where
  section : Order → BlockText
  interface : Interface → BlockText
  packet : Record → List ℕ → BlockText
  other : BlockText

-- Section 3.1, General Block Structure: the total length is a multiple of 4, and has room for the
-- fields of the block's kind. The result is the number of bytes after them.
abbrev pub room_in : ℕ → ℕ → Reading ℕ
room_in fields total =
    if total % 4 == 0
    then (if nat_lt total (fields + 12) then refuses (Fault BadBlock) else gives (total - (fields + 12)))
    else refuses (Fault BadBlock)

-- the total length is repeated at the end
abbrev pub same_total : ℕ → ℕ → Reading (Unit {0})
same_total again total = if again == total then gives tt else refuses (Fault BadBlock)

-- this many bytes that are skipped, and then the end of a block of this total length
unfoldable pub closed : Order → ℕ → ℕ → Reading (Unit {0})
closed order n total = do
  gone ← skipped n
  again ← next_part 4
  same_total (field order 0 4 again) total

-- Section 4.1, Section Header Block: the byte-order magic gives the order of all the section's
-- numbers.
abbrev pub order_in : ℕ → Reading Order
order_in magic = some_or (Fault NotCapture) (order_of magic)

-- a section header block after its first 8 bytes, of which the last 4 give its total length
unfoldable pub section_at : List ℕ → Reading Order
section_at claimed = do
  magic ← next_part 4
  order ← order_in (field Big 0 4 magic)
  room ← room_in 16 (field order 0 4 claimed)
  version ← next_part 12
  checked ← checked_version 1 (field order 0 2 version)
  gone ← closed order room (field order 0 4 claimed)
  gives order

-- the clock given by the options of an interface
abbrev pub clock_in : Order → List ℕ → Reading Clock
clock_in order options = some_or (Fault BadBlock) (clock_of order options)

-- a section describes at most 4,096 interfaces (own)
abbrev pub has_place : ℕ → Reading (Unit {0})
has_place count = if nat_lt count 4096 then gives tt else refuses (Fault TooManyInterfaces)

-- Section 4.2, Interface Description Block: the link type, two reserved bytes, the snap length and
-- the options, of at most 262,144 bytes (own).
unfoldable pub interface_at : SectionText → ℕ → Reading Interface
interface_at now total = do
  room ← room_in 8 total
  fields ← next_part 8
  options ← captured_at room
  clock ← clock_in now.order options
  gone ← closed now.order 0 total
  place ← has_place (length now.interfaces)
  gives (record {
    link = field now.order 0 2 fields;
    snap = field now.order 4 4 fields;
    clock = clock;
  })

-- the interface with this number
abbrev pub described : SectionText → ℕ → Reading Interface
described now number = some_or (Fault (UnknownInterface number)) (slice_get now.interfaces number)

-- how many bytes of the room are left after the captured ones
abbrev pub room_behind : ℕ → ℕ → Reading ℕ
room_behind captured room =
    if nat_lt room captured then refuses (Fault BadBlock) else gives (room - captured)

-- the captured bytes of a packet, what follows them in their block, and its end
unfoldable pub packet_at : Order → ℕ → ℕ → ℕ → Record → Reading BlockText
packet_at order total room captured head = do
  left ← room_behind captured room
  bytes ← captured_at captured
  gone ← closed order left total
  gives (packet head bytes)

-- the fields of a packet with a time on the interface with this number: the upper and the lower half
-- of the time, and the original length
abbrev pub timed_head : Order → Interface → ℕ → List ℕ → Record
timed_head order on number fields = record {
  time = Some (time_of on.clock (field order 4 4 fields * 2 ^ 32 + field order 8 4 fields));
  link = on.link;
  interface = Some number;
  original = field order 16 4 fields;
}

-- Section 4.3, Enhanced Packet Block, and Appendix A, Packet Block: the interface in n bytes (the
-- Packet Block has a count of drops after its 2), the time, and the captured and the original
-- length.
unfoldable pub timed_packet : ℕ → SectionText → ℕ → Reading BlockText
timed_packet n now total = do
  room ← room_in 20 total
  fields ← next_part 20
  on ← described now (field now.order 0 n fields)
  packet_at now.order total room (field now.order 12 4 fields)
      (timed_head now.order on (field now.order 0 n fields) fields)

-- this many bytes, cut by the snap length; 0 cuts nothing
abbrev pub snapped : ℕ → ℕ → ℕ
snapped snap original = if snap == 0 then original else min original snap

-- Section 4.4, Simple Packet Block: the original length; it was captured on the first interface.
unfoldable pub simple_packet : SectionText → ℕ → Reading BlockText
simple_packet now total = do
  room ← room_in 4 total
  fields ← next_part 4
  on ← described now 0
  packet_at now.order total room (snapped on.snap (field now.order 0 4 fields)) (record {
    time = None;
    link = on.link;
    interface = Some 0;
    original = field now.order 0 4 fields;
  })

-- any other block, after its type and its total length
unfoldable pub other_at : Order → ℕ → Reading (Unit {0})
other_at order total = do
  room ← room_in 0 total
  closed order room total

-- any other block
unfoldable pub next_other : Order → ℕ → Reading BlockText
next_other order total = do
  gone ← other_at order total
  gives other

-- a new section
unfoldable pub next_section : List ℕ → Reading BlockText
next_section claimed = do
  order ← section_at claimed
  gives (section order)

-- an interface of the section
unfoldable pub next_interface : SectionText → ℕ → Reading BlockText
next_interface now total = do
  on ← interface_at now total
  gives (interface on)

-- a block of this type and total length
abbrev pub block_of : SectionText → ℕ → ℕ → List ℕ → Reading BlockText
block_of now kind total claimed =
    if kind == 0x0a0d0d0a then next_section claimed else
    if kind == 1 then next_interface now total else
    if kind == 2 then timed_packet 2 now total else
    if kind == 3 then simple_packet now total else
    if kind == 6 then timed_packet 4 now total else next_other now.order total

-- Section 3.1: the type and the total length, and then what the type requires
unfoldable pub block_at : SectionText → Reading BlockText
block_at now = do
  head ← next_header 8
  block_of now (field now.order 0 4 head) (field now.order 4 4 head) (take 4 (drop 4 head))
