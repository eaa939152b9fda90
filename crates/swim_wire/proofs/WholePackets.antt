-- A packet that is read as a whole, or the refusal.
use Rattle.std.proofs.Common.{◌≡◌, ◌≢◌, ◌⊎◌, inl, inr, List, ℕ, Result, Ok, Err, IfOk, IfErr, refl, sym, ap, subst}
use Rattle.swim_wire.specs.declared.fault.WireFault.{WireFault}
use Rattle.swim_wire.specs.declared.fault.WireFault.TheVariants.{Memory}
use Rattle.swim_wire.specs.Asking.{PacketAsks}
use Rattle.swim_wire.specs.Checks.{ReasonForWhole}
use Rattle.swim_wire.specs.Packet.{PacketValue}
use Rattle.swim_wire.specs.Reading.{whole_packet, AnswersUnlessMemory}
use Rattle.swim_wire.specs.Texts.{PacketText}
use Rattle.swim_wire.proofs.Reasons.{memory_or}
use Rattle.swim_wire.proofs.PacketTexts.{whole_takes, whole_lacks, whole_refusal}

ok≢memory : (p : PacketValue) (r : Result PacketValue WireFault) → r ≡ Ok p → r ≡ Err Memory → ⊥
ok≢memory p r ok err = cc

memory_is : (error : WireFault) (r : Result PacketValue WireFault) → r ≡ Err error → r ≡ Err Memory → error ≡ Memory
memory_is error r is memory = cc

pub packet_reads : (b : List ℕ) (r : Result PacketValue WireFault) → AnswersUnlessMemory (whole_packet b) r → IfOk r (λ p. PacketText b p)
packet_reads b (Ok p) (inl e) = whole_takes b p (sym e)
packet_reads b (Ok p) (inr e) = absurd (ok≢memory p (Ok p) refl e)
packet_reads b (Err error) h = tt

pub packet_refuses : (b : List ℕ) (r : Result PacketValue WireFault) → AnswersUnlessMemory (whole_packet b) r
    → IfErr r (λ error. error ≢ Memory → (p : PacketValue) → ¬ PacketText b p)
packet_refuses b (Ok p) h = tt
packet_refuses b (Err error) (inl e) = λ _ p text. whole_lacks b error (sym e) p text
packet_refuses b (Err error) (inr e) = λ other. absurd (other (memory_is error (Err error) refl e))

pub packet_reason : (b : List ℕ) (r : Result PacketValue WireFault) → AnswersUnlessMemory (whole_packet b) r
    → (r ≡ Err Memory → PacketAsks b) → IfErr r (λ error. ReasonForWhole error b)
packet_reason b (Ok p) h memory = tt
packet_reason b (Err error) (inl e) memory = by (memory_or error)
  where
    by : (error ≡ Memory) ⊎ (error ≢ Memory) → ReasonForWhole error b
    by (inl is) = subst (λ (f : WireFault). ReasonForWhole f b) (sym is) (memory (ap Err is))
    by (inr other) = whole_refusal b error other (sym e)
packet_reason b (Err error) (inr e) memory =
    let is = memory_is error (Err error) refl e in
    subst (λ (f : WireFault). ReasonForWhole f b) (sym is) (memory e)

-- the refusal is the one at which the reading stops
pub packet_exact : (b : List ℕ) (r : Result PacketValue WireFault) → AnswersUnlessMemory (whole_packet b) r
    → IfErr r (λ error. error ≢ Memory → whole_packet b ≡ Err error)
packet_exact b (Ok p) h = tt
packet_exact b (Err error) (inl e) = λ _. sym e
packet_exact b (Err error) (inr e) = λ other. absurd (other (memory_is error (Err error) refl e))
