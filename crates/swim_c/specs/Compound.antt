-- Packets that follow one another, and the compound packet of them.
use Rattle.std.specs.Prelude.{◌≡◌, ◌≢◌, ℕ, ◌<◌, ◌≤◌, List, [], ◌∷◌, ◌++◌, length, Err}
use Rattle.swim_wire.specs.declared.fault.WireFault.{WireFault}
use Rattle.swim_wire.specs.declared.fault.WireFault.TheVariants.{Ended, Fault, Memory, Trailing}
use Rattle.swim_wire.specs.Asking.{PacketAsks}
use Rattle.swim_wire.specs.Canonical.{packets_bytes}
use Rattle.swim_wire.specs.Checks.{ReasonForWhole}
use Rattle.swim_wire.specs.Fault.{wire_number}
use Rattle.swim_wire.specs.Packet.{PacketValue}
use Rattle.swim_wire.specs.Reading.{whole_packet}
use Rattle.swim_wire.specs.Texts.{PacketText, DatagramText}
use Rattle.swim_c.specs.Buffers.{Copied}
use Rattle.swim_c.specs.Statuses as statuses

-- the bytes are these packets, one after another, with these lengths
pub data PacketTexts : List ℕ → List ℕ → List PacketValue → Type 0 where
  none : PacketTexts [] [] []
  one : (text rest lens : List ℕ) (p : PacketValue) (packets : List PacketValue) → PacketText text p
      → PacketTexts lens rest packets
      → PacketTexts (length text ∷ lens) (text ++ rest) (p ∷ packets)

-- After some packets the next one is cut, or is not a packet. Or bytes are left after all of them.
pub data LacksPackets (lens bytes : List ℕ) (fault : WireFault) : Type 0 where
  cut : (front rest before later : List ℕ) (len : ℕ) (packets : List PacketValue)
      → PacketTexts before front packets → lens ≡ before ++ len ∷ later → bytes ≡ front ++ rest
      → length rest < len → fault ≡ Ended → LacksPackets lens bytes fault
  wrong : (front text rest before later : List ℕ) (packets : List PacketValue)
      → PacketTexts before front packets
      → lens ≡ before ++ length text ∷ later → bytes ≡ front ++ (text ++ rest)
      → whole_packet text ≡ Err fault → ReasonForWhole fault text → fault ≢ Fault
      → LacksPackets lens bytes fault
  trailing : (front rest : List ℕ) (packets : List PacketValue) → PacketTexts lens front packets
      → bytes ≡ front ++ rest → rest ≢ []
      → fault ≡ Trailing → LacksPackets lens bytes fault

-- Memory is requested to read the next packet after some others, or once all of them are read.
pub data PackingAsks (lens bytes : List ℕ) : Type 0 where
  next : (front text rest before later : List ℕ) (packets : List PacketValue)
      → PacketTexts before front packets
      → lens ≡ before ++ length text ∷ later → bytes ≡ front ++ (text ++ rest) → PacketAsks text
      → PackingAsks lens bytes
  all : (packets : List PacketValue) → PacketTexts lens bytes packets → PackingAsks lens bytes

-- the bytes are the canonical compound packet of these packets
pub record IsPacked (lens bytes compound : List ℕ) : Type 0 where
  pub packets : List PacketValue
  pub texts : PacketTexts lens bytes packets
  pub text : DatagramText compound packets
  pub canonical : compound ≡ packets_bytes packets

-- The canonical compound packet of the packets was written or did not fit. Or the buffer is
-- unchanged: there are more than 255 (69); they are not packets, and the status is that of the
-- fault; or memory was requested and refused (10).
pub data CompoundDone (bytes lens old new : List ℕ) (status len : ℕ) : Type 0 where
  packed : (compound : List ℕ) → IsPacked lens bytes compound → Copied compound old new status len
      → CompoundDone bytes lens old new status len
  too_many : 255 < length lens → status ≡ statuses.too_many_packets → len ≡ 0 → new ≡ old
      → CompoundDone bytes lens old new status len
  refused : length lens ≤ 255 → (fault : WireFault) → status ≡ wire_number fault → fault ≢ Memory
      → LacksPackets lens bytes fault
      → len ≡ 0 → new ≡ old → CompoundDone bytes lens old new status len
  memory : length lens ≤ 255 → status ≡ statuses.memory → PackingAsks lens bytes → len ≡ 0
      → new ≡ old
      → CompoundDone bytes lens old new status len
