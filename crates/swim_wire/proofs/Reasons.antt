-- What a read of a message consumed from an inlet, what the inlet lacks if the read was refused,
-- and why.
use Rattle.std.proofs.Common.{◌≡◌, ◌≢◌, ◌⊎◌, inl, inr, ℕ, List, Option, Some, None, Result, Ok, Err, refl, sym, ap, subst}
use Rattle.std.specs.Prelude.{IfOk, IfErr, IfSome}
use Rattle.swim_claim.specs.declared.claim.Claim.{Claim}
use Rattle.swim_pack.specs.Ends.{Source, ConsumesText, NoTextAtFront}
use Rattle.swim_pack.specs.Composing.{UnlessFailed, Answers, ReadsAs}
use Rattle.swim_pack.proofs.Composing.{Reads-takes, Reads-lacks, UnlessFailed-weaker}
use Rattle.swim_wire.specs.declared.fault.WireFault.{WireFault}
use Rattle.swim_wire.specs.declared.fault.WireFault.TheVariants.{Fault, Memory}
use Rattle.swim_wire.specs.declared.stream.Header.{Header}
use Rattle.swim_wire.specs.Asking.{MapAsks}
use Rattle.swim_wire.specs.Checks.{ReasonForHeader, ReasonForState}
use Rattle.swim_wire.specs.Layout.{state_layout}
use Rattle.swim_wire.specs.Reading.{Reading, wire_cause, header_at, state_at}
use Rattle.swim_wire.specs.Texts.{HeaderText, StateText}
use Rattle.swim_wire.proofs.Readings.{refused}
use Rattle.swim_wire.proofs.StreamTexts.{header_takes, header_again, header_refusal, state_takes, state_again, state_refusal}

-- a fault is out of memory, or another one
pub memory_or : (error : WireFault) → (error ≡ Memory) ⊎ (error ≢ Memory)
memory_or Memory = inl refl
memory_or error = inr (λ e. absurd cc)

-- unless the inlet failed, of which the reason says nothing
unless : (P : WireFault → Type 0) (error : WireFault) → P Fault → error ≢ Memory → UnlessFailed (wire_cause error) (P error) → P error
unless P Fault fault other h = fault
unless P Memory fault other h = absurd (other refl)
unless P error fault other h = h

-- if the refusal of the reading means something for the bytes, and so does `Memory`, so does the
-- refusal of the read
pub Reads-reason : {X V : Type 0} {view : X
    → V} {reading : Reading V} {a b : Source} (r : Result X WireFault) (P : WireFault → List ℕ → Type 0)
    → ((bytes : List ℕ) → P Fault bytes)
    → ((bytes : List ℕ) (error : WireFault) → error ≢ Memory → reading bytes ≡ refused V error → P error bytes)
    → (r ≡ Err Memory → IfSome a.coming (P Memory)) → ReadsAs wire_cause view reading a b r → IfErr r (λ error. IfSome a.coming (P error))
Reads-reason (Ok x) P fault says memory h = tt
Reads-reason {X} {V} {view} {reading} {a} {b} (Err error) P fault says memory h = by (memory_or error)
  where
    explained : (known : Option (List ℕ)) → error ≢ Memory
        → Answers {X = X} wire_cause view reading known b.coming (Err error) → IfSome known (P error)
    explained None other e = tt
    explained (Some bytes) other e = unless
        (λ f. P f bytes) error (fault bytes) other
        (UnlessFailed-weaker (wire_cause error) (says bytes error other) e)

    by : (error ≡ Memory) ⊎ (error ≢ Memory) → IfSome a.coming (P error)
    by (inl is) = subst (λ (f : WireFault). IfSome a.coming (P f)) (sym is) (memory (ap Err is))
    by (inr other) = explained a.coming other h.answer

-- ---- headers

pub Header-takes : {X : Type 0} {view : X → Header} {a b : Source} (r : Result X WireFault) → ReadsAs wire_cause view header_at a b r
    → IfOk r (λ x. ConsumesText a b (λ text. HeaderText text (view x)))
Header-takes r h = Reads-takes r (λ value text. HeaderText text value) header_takes h

pub Header-lacks : {X : Type 0} {view : X → Header} {a b : Source} (r : Result X WireFault) → ReadsAs wire_cause view header_at a b r
    → IfErr r (λ error. UnlessFailed (wire_cause error) (NoTextAtFront a (λ text. (value : Header) × HeaderText text value)))
Header-lacks r h = Reads-lacks r (λ text. (value : Header) × HeaderText text value)
    (λ text rest is. (is.0, header_again text rest is.0 is.1)) h

pub Header-reason : {X : Type 0} {view : X → Header} {a b : Source} (r : Result X WireFault)
    → ¬ (r ≡ Err Memory) → ReadsAs wire_cause view header_at a b r
    → IfErr r (λ error. IfSome a.coming (ReasonForHeader error))
Header-reason r none h = Reads-reason r ReasonForHeader (λ bytes. tt) header_refusal (λ is. absurd (none is)) h

-- ---- state records

pub State-takes : {X : Type 0} {view : X → Claim} {a b : Source} (r : Result X WireFault) → ReadsAs wire_cause view state_at a b r
    → IfOk r (λ x. ConsumesText a b (λ text. StateText text (view x)))
State-takes r h = Reads-takes r (λ claim text. StateText text claim) state_takes h

pub State-lacks : {X : Type 0} {view : X → Claim} {a b : Source} (r : Result X WireFault) → ReadsAs wire_cause view state_at a b r
    → IfErr r (λ error. UnlessFailed (wire_cause error) (NoTextAtFront a (λ text. (claim : Claim) × StateText text claim)))
State-lacks r h = Reads-lacks r (λ text. (claim : Claim) × StateText text claim) (λ text rest is. (is.0, state_again text rest is.0 is.1)) h

pub State-reason : {X : Type 0} {view : X → Claim} {a b : Source} (r : Result X WireFault)
    → (r ≡ Err Memory → IfSome a.coming (MapAsks state_layout)) → ReadsAs wire_cause view state_at a b r
    → IfErr r (λ error. IfSome a.coming (ReasonForState error))
State-reason r memory h = Reads-reason r ReasonForState (λ bytes. tt) state_refusal memory h
