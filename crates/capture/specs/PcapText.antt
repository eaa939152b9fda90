-- A file of the pcap format, byte by byte (draft-ietf-opsawg-pcap).
use Rattle.std.specs.Prelude.{ℕ, ◌+◌, ◌*◌, ◌%◌, ◌^◌, ◌<◌, ◌≤◌, List, [], ◌∷◌, ◌++◌, length, Some, None}
use Rattle.byteorder.specs.Endian.{big_bytes, little_bytes}
use Rattle.capture.specs.declared.order.Order.{Order}
use Rattle.capture.specs.declared.order.Order.TheVariants.{Big, Little}
use Rattle.capture.specs.declared.pcap.Pcap.{Pcap}
use Rattle.capture.specs.declared.pcap.Precision.{Precision}
use Rattle.capture.specs.declared.pcap.Precision.TheVariants.{Microseconds, Nanoseconds}
use Rattle.capture.specs.Pcap.{RecordText, fraction_of}

-- a number in n bytes of this order
abbrev pub number_bytes : Order → ℕ → ℕ → List ℕ
number_bytes Big n x = big_bytes n x
number_bytes Little n x = little_bytes n x

-- Section 4: the magic number says in which unit fractions of a second are
abbrev pub magic_of : Precision → ℕ
magic_of Microseconds = 0xa1b2c3d4
magic_of Nanoseconds = 0xa1b23c4d

-- Section 4, File Header: the magic number, major version 2, a minor version, two reserved numbers,
-- the snap length, and a number whose lower 16 bits are the link type
abbrev pub file_bytes : Order → Precision → ℕ → ℕ → ℕ → ℕ → ℕ → List ℕ
file_bytes order precision minor reserved also_reserved snap link =
    number_bytes order 4 (magic_of precision)
    ++ number_bytes order 2 2 ++ number_bytes order 2 minor
    ++ number_bytes order 4 reserved ++ number_bytes order 4 also_reserved
    ++ number_bytes order 4 snap ++ number_bytes order 4 link

-- Section 5, Packet Record: seconds, a fraction of a second, the captured length, the original
-- length, the captured bytes
abbrev pub packet_bytes : Order → ℕ → ℕ → ℕ → List ℕ → List ℕ
packet_bytes order seconds fraction original captured =
    number_bytes order 4 seconds ++ number_bytes order 4 fraction
    ++ number_bytes order 4 (length captured) ++ number_bytes order 4 original ++ captured

-- the packet's record, its time in nanoseconds
abbrev pub packet_record : Pcap → ℕ → ℕ → ℕ → List ℕ → RecordText
packet_record file seconds fraction original captured = (
  record {
    time = Some (seconds * 1000000000 + fraction_of file.precision fraction);
    link = file.link;
    interface = None;
    original = original;
  },
  captured,
)

-- the bytes are these records, each of at most 262,144 captured bytes (own)
pub data PacketsText (file : Pcap) : List ℕ → List RecordText → Type 0 where
  nothing : PacketsText file [] []
  packet : (seconds fraction original : ℕ) (captured more : List ℕ) (records : List RecordText)
      → seconds < 2 ^ 32 → fraction < 2 ^ 32 → original < 2 ^ 32 → length captured ≤ 262144
      → PacketsText file more records
      → PacketsText file (packet_bytes file.order seconds fraction original captured ++ more)
      (packet_record file seconds fraction original captured ∷ records)

-- the bytes are a file with these records
pub data PcapText : List ℕ → List RecordText → Type 0 where
  file : (order : Order) (precision : Precision) (minor reserved also_reserved snap link : ℕ)
      (bytes : List ℕ) (records : List RecordText) → link < 2 ^ 32
      → PacketsText (record { order = order; precision = precision; link = link % 65536 })
      bytes records
      → PcapText (file_bytes order precision minor reserved also_reserved snap link ++ bytes)
      records
