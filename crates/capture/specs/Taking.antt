-- What is consumed from a capture's bytes.
use Rattle.std.specs.Prelude.{ℕ, ◌-◌, nat_lt, ◌==◌, if◌then◌else◌, List, [], ◌∷◌, ◌++◌, length, take, drop, Option, Some, None, Ok, Err}
use Rattle.byteorder.specs.Endian.{big_number, little_number}
use Rattle.swim_pack.specs.declared.fault.PullFault.{PullFault}
use Rattle.swim_pack.specs.declared.fault.PullFault.TheVariants as pulls
use Rattle.swim_pack.specs.Composing.{Cause, ◌>>=◌, gives, refuses}
use Rattle.swim_pack.specs.Composing.Cause.{by_end, by_bytes, by_inlet, by_memory}
use Rattle.swim_pack.specs.Composing as composing
use Rattle.capture.specs.declared.capture_fault.CaptureFault.TheVariants.{Version, TooLong, Cut, Device, Memory}
use Rattle.capture.specs.declared.order.Order.{Order}
use Rattle.capture.specs.declared.order.Order.TheVariants.{Big, Little}
use Rattle.capture.specs.declared.stop.Stop.{Stop}
use Rattle.capture.specs.declared.stop.Stop.TheVariants.{End, Fault}

-- a value and the bytes after it, or why there is none
abbrev pub Reading : Type 0 → Type 0
Reading V = composing.Reading Stop V

-- what causes a stop
abbrev pub stop_cause : Stop → Cause
stop_cause End = by_end
stop_cause (Fault Cut) = by_end
stop_cause (Fault Device) = by_inlet
stop_cause (Fault Memory) = by_memory
stop_cause (Fault fault) = by_bytes

-- the stop if an inlet does not return bytes in the middle of a record
abbrev pub stop_of_pull : PullFault → Stop
stop_of_pull pulls.Ended = Fault Cut
stop_of_pull pulls.Fault = Fault Device

-- the number in the first n bytes
abbrev pub number : Order → ℕ → List ℕ → ℕ
number Big n bytes = big_number n bytes
number Little n bytes = little_number n bytes

-- the number in n bytes from place o on
abbrev pub field : Order → ℕ → ℕ → List ℕ → ℕ
field order o n bytes = number order n (drop o bytes)

-- the order given by the byte-order magic of a pcapng section (draft-ietf-opsawg-pcapng, 4.1)
abbrev pub order_of : ℕ → Option Order
order_of magic =
    if magic == 0x1a2b3c4d then Some Big else
    if magic == 0x4d3c2b1a then Some Little else None

-- the next n bytes of a record
abbrev pub next_part : ℕ → Reading (List ℕ)
next_part n bytes =
    if nat_lt (length bytes) n then Err (Fault Cut) else Ok (take n bytes, drop n bytes)

-- the first byte of a record, if the capture does not end before it
abbrev pub first_byte : Reading (List ℕ)
first_byte [] = Err End
first_byte (byte ∷ bytes) = Ok (byte ∷ [], bytes)

-- a header of n bytes, if the capture does not end before it
unfoldable pub next_header : ℕ → Reading (List ℕ)
next_header n = do
  first ← first_byte
  rest ← next_part (n - 1)
  gives (first ++ rest)

-- skips n bytes
unfoldable pub skipped : ℕ → Reading (Unit {0})
skipped n = do
  bytes ← next_part n
  gives tt

-- the captured bytes of a record: at most 262,144 (own)
unfoldable pub captured_at : ℕ → Reading (List ℕ)
captured_at n = if nat_lt 262144 n then refuses (Fault (TooLong n)) else next_part n

-- the major version of a format has to be this one
abbrev pub checked_version : ℕ → ℕ → Reading (Unit {0})
checked_version wanted major =
    if major == wanted then gives tt else refuses (Fault (Version major))
