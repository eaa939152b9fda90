-- Captures of both formats are read back.
use Rattle.std.proofs.Common.{ℕ, List, inl, inr}
use Rattle.capture.specs.Pcap.{RecordText}
use Rattle.capture.specs.CaptureText.{CaptureText}
use Rattle.capture.specs.Whole.{ReadsWhole}
use Rattle.capture.proofs.PcapText.{pcap_back}
use Rattle.capture.proofs.PcapngText.{pcapng_back}

pub capture_back : (bytes : List ℕ) (records : List RecordText) → CaptureText bytes records → ReadsWhole bytes records
capture_back bytes records (inl text) = pcap_back bytes records text
capture_back bytes records (inr text) = pcapng_back bytes records text
