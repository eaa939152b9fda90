-- How an interface of a pcapng capture counts time (draft-ietf-opsawg-pcapng, section 4.2).
use Rattle.std.specs.Prelude.{ℕ, zero, suc, ◌+◌, ◌-◌, ◌*◌, ◌/◌, ◌^◌, ◌==◌, ◌&&◌, min, nat_lt, if◌then◌else◌, List}
use Rattle.std.specs.Prelude.{length, take, drop, slice_index, Option, Some, None}
use Rattle.capture.specs.declared.clock.Clock.{Clock}
use Rattle.capture.specs.declared.order.Order.{Order}
use Rattle.capture.specs.Taking.{field}

-- if_tsresol: the units in a second. A power of ten, or of two if the highest bit is set.
abbrev pub units : ℕ → ℕ
units resolution = if nat_lt resolution 128 then 10 ^ resolution else 2 ^ (resolution - 128)

-- if_tsoffset: seconds that are added, in two's complement with 64 bits. A time before 1970 becomes
-- 0 (own).
abbrev pub moved : ℕ → ℕ → ℕ
moved offset nanos =
    if nat_lt offset (2 ^ 63)
    then nanos + offset * 1000000000
    else nanos - (2 ^ 64 - offset) * 1000000000

-- nanoseconds at this count, rounded down
unfoldable pub nanos_of : ℕ → ℕ → ℕ
nanos_of resolution count = count * 1000000000 / units resolution

-- the time in nanoseconds since 1970, or 2 ^ 64 - 1 if it does not fit into 64 bits (own)
unfoldable pub time_of : Clock → ℕ → ℕ
time_of clock count = min (moved clock.offset (nanos_of clock.resolution count)) (2 ^ 64 - 1)

-- Section 3.5, Options: a code, the length of the value, and the value, padded to 32 bits.
abbrev pub option_code : Order → List ℕ → ℕ
option_code order options = field order 0 2 options

abbrev pub value_len : Order → List ℕ → ℕ
value_len order options = field order 2 2 options

abbrev pub option_value : Order → List ℕ → List ℕ
option_value order options = take (value_len order options) (drop 4 options)

abbrev pub option_len : Order → List ℕ → ℕ
option_len order options = 4 + (value_len order options + 3) / 4 * 4

-- the clock with this option. An option of the wrong length is skipped (own).
abbrev pub with_option : Order → ℕ → List ℕ → Clock → Clock
with_option order code value clock =
    if (code == 9) && (length value == 1)
    then record clock { resolution = slice_index value 0 }
    else if (code == 14) && (length value == 8)
    then record clock { offset = field order 0 8 value }
    else clock

-- The clock with the first of these options, at most n. They end with the bytes, or with an option
-- of code 0. There is none if an option does not fit.
unfoldable pub with_options : ℕ → Order → List ℕ → Clock → Option Clock
with_options zero order options clock = None
with_options (suc n) order options clock =
    if nat_lt (length options) 4 then Some clock
    else if option_code order options == 0 then Some clock
    else if nat_lt (length options) (option_len order options) then None
    else with_options n order (drop (option_len order options) options)
    (with_option order (option_code order options) (option_value order options) clock)

-- microseconds since 1970
abbrev pub default_clock : Clock
default_clock = record { resolution = 6; offset = 0 }

-- the clock given by the options of an interface
abbrev pub clock_of : Order → List ℕ → Option Clock
clock_of order options = with_options (suc (length options)) order options default_clock
