-- A datagram that is read as a whole, or the refusal.
use Rattle.std.proofs.Common.{◌≡◌, ◌≢◌, ◌⊎◌, inl, inr, List, ℕ, Result, Ok, Err, IfOk, IfErr, sym, ap, subst}
use Rattle.swim_claim.specs.Bytes.{AreBytes}
use Rattle.swim_wire.specs.declared.fault.WireFault.{WireFault}
use Rattle.swim_wire.specs.declared.fault.WireFault.TheVariants.{Memory}
use Rattle.swim_wire.specs.Asking.{DatagramAsks}
use Rattle.swim_wire.specs.Datagrams.{whole_datagram, ReasonForDatagram}
use Rattle.swim_wire.specs.Packet.{PacketValue}
use Rattle.swim_wire.specs.Parts.{ListsUnlessMemory}
use Rattle.swim_wire.specs.Texts.{DatagramText}
use Rattle.swim_wire.proofs.DatagramTexts.{datagram_takes, datagram_lacks}
use Rattle.swim_wire.proofs.DatagramRefusals.{datagram_refusal}
use Rattle.swim_wire.proofs.Reasons.{memory_or}

pub datagram_reads : {X : Type 0} (items : X → List PacketValue) (b : List ℕ) (r : Result X WireFault) → AreBytes b
    → ListsUnlessMemory items (whole_datagram b) r
    → IfOk r (λ packets. DatagramText b (items packets))
datagram_reads items b (Ok packets) are h = datagram_takes b (items packets) are h
datagram_reads items b (Err error) are h = tt

pub datagram_refuses : {X : Type 0} (items : X → List PacketValue) (b : List ℕ) (r : Result X WireFault)
    → ListsUnlessMemory items (whole_datagram b) r
    → IfErr r (λ error. error ≢ Memory → (packets : List PacketValue) → ¬ DatagramText b packets)
datagram_refuses items b (Ok packets) h = tt
datagram_refuses items b (Err error) (inl e) = λ _ packets text. datagram_lacks b error e packets text
datagram_refuses items b (Err error) (inr e) = λ other. absurd (other e)

pub datagram_reason : {X : Type 0} (items : X → List PacketValue) (b : List ℕ) (r : Result X WireFault) → AreBytes b
    → ListsUnlessMemory items (whole_datagram b) r → (r ≡ Err Memory → DatagramAsks b) → IfErr r (λ error. ReasonForDatagram error b)
datagram_reason items b (Ok packets) are h memory = tt
datagram_reason items b (Err error) are (inl e) memory = by (memory_or error)
  where
    by : (error ≡ Memory) ⊎ (error ≢ Memory) → ReasonForDatagram error b
    by (inl is) = subst (λ (f : WireFault). ReasonForDatagram f b) (sym is) (memory (ap Err is))
    by (inr other) = datagram_refusal b error other are e
datagram_reason items b (Err error) are (inr e) memory = subst (λ (f : WireFault). ReasonForDatagram f b) (sym e) (memory (ap Err e))

-- the refusal is the one at which the reading stops
pub datagram_exact : {X : Type 0} (items : X → List PacketValue) (b : List ℕ) (r : Result X WireFault)
    → ListsUnlessMemory items (whole_datagram b) r
    → IfErr r (λ error. error ≢ Memory → whole_datagram b ≡ Err error)
datagram_exact items b (Ok packets) h = tt
datagram_exact items b (Err error) (inl e) = λ _. e
datagram_exact items b (Err error) (inr e) = λ other. absurd (other e)
