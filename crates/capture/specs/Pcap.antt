-- Files of the pcap format (draft-ietf-opsawg-pcap).
use Rattle.std.specs.Prelude.{ℕ, ◌+◌, ◌*◌, ◌%◌, List, Some, None}
use Rattle.swim_pack.specs.Composing.{◌>>=◌, gives}
use Rattle.capture.specs.declared.order.Order.{Order}
use Rattle.capture.specs.declared.pcap.Pcap.{Pcap}
use Rattle.capture.specs.declared.pcap.Precision.{Precision}
use Rattle.capture.specs.declared.pcap.Precision.TheVariants.{Microseconds, Nanoseconds}
use Rattle.capture.specs.declared.record.Record.{Record}
use Rattle.capture.specs.Taking.{Reading, field, next_part, next_header, captured_at, checked_version}

-- a record and its captured bytes
abbrev pub RecordText : Type 0
RecordText = Record × List ℕ

-- how many nanoseconds a fraction of a second is
abbrev pub fraction_of : Precision → ℕ → ℕ
fraction_of Microseconds fraction = fraction * 1000
fraction_of Nanoseconds fraction = fraction

-- Section 4, File Header, after its magic number: a major and a minor version, two reserved
-- numbers, the snap length, and a number whose lower 16 bits are the link type.
unfoldable pub pcap_behind : Order → Precision → Reading Pcap
pcap_behind order precision = do
  header ← next_part 20
  checked ← checked_version 2 (field order 0 2 header)
  gives (record {
    order = order;
    precision = precision;
    link = field order 16 4 header % 65536;
  })

-- Section 5, Packet Record: the time in seconds and their fraction, the captured and the original
-- length, and the captured bytes.
unfoldable pub pcap_record : Pcap → Reading RecordText
pcap_record file = do
  header ← next_header 16
  bytes ← captured_at (field file.order 8 4 header)
  gives (
    record {
      time = Some (field file.order 0 4 header * 1000000000
          + fraction_of file.precision (field file.order 4 4 header));
      link = file.link;
      interface = None;
      original = field file.order 12 4 header;
    },
    bytes,
  )
