-- Captures of both formats, byte by byte. The text is that of a whole file: one that is cut in the
-- middle of a record is none. Any bytes stand for the options of sections and packets, which are
-- skipped, and for the bodies of other blocks. A call of `next` also ends at 2^64 - 1 blocks in a
-- row that hold no record, which no file has; the text does not exclude them.
use Rattle.std.specs.Prelude.{ℕ, ◌⊎◌, List}
use Rattle.capture.specs.Pcap.{RecordText}
use Rattle.capture.specs.PcapText.{PcapText}
use Rattle.capture.specs.PcapngText.{PcapngText}

-- the bytes are a capture with these records, in this order
abbrev pub CaptureText : List ℕ → List RecordText → Type 0
CaptureText bytes records = PcapText bytes records ⊎ PcapngText bytes records
