-- Values made from the numbers in a header.
use Rattle.std.proofs.Common.{◌≡◌, ℕ, ◌+◌, ◌*◌, List, Option, Some, None, refl}
use Rattle.capture.specs.declared.clock.Clock.{Clock}
use Rattle.capture.specs.declared.interface.Interface.{Interface}
use Rattle.capture.specs.declared.order.Order.{Order}
use Rattle.capture.specs.declared.pcap.Pcap.{Pcap}
use Rattle.capture.specs.declared.pcap.Precision.{Precision}
use Rattle.capture.specs.declared.record.Record.{Record}
use Rattle.capture.specs.Pcap.{RecordText}

abbrev pub pcap_made : Order → Precision → ℕ → Pcap
pcap_made order precision link = record { order = order; precision = precision; link = link }

abbrev pub record_made : Option ℕ → ℕ → ℕ → Record
record_made time link original = record { time = time; link = link; interface = None; original = original }

abbrev text_made : List ℕ → Record → RecordText
text_made bytes head = (head, bytes)

-- a record of pcap with equal numbers
pub record_same : (bytes : List ℕ) (link s t f h o q : ℕ) → s ≡ t → f ≡ h → o ≡ q
    → text_made bytes (record_made (Some (s * 1000000000 + f)) link o) ≡ text_made bytes (record_made (Some (t * 1000000000 + h)) link q)
record_same bytes link s t f h o q seconds fraction original = rw (seconds, fraction, original) refl

abbrev pub interface_made : ℕ → ℕ → Clock → Interface
interface_made link snap clock = record { link = link; snap = snap; clock = clock }
