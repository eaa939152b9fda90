-- Readings of captures that do not end where a capture may end.
use Rattle.std.proofs.Common.{◌≡◌, ℕ, ◌-◌, ◌==◌, Bool, true, false, ltb, List, [], ◌∷◌, ◌++◌, length, take, drop, Option, Some, None}
use Rattle.std.proofs.Common.{Result, Ok, Err, refl, if◌then◌else◌}
use Rattle.swim_pack.specs.Composing.{then_read, ◌>>=◌, gives, refuses, some_or}
use Rattle.capture.specs.declared.capture_fault.CaptureFault.{CaptureFault}
use Rattle.capture.specs.declared.capture_fault.CaptureFault.TheVariants.{Cut, NotCapture}
use Rattle.capture.specs.declared.order.Order.{Order}
use Rattle.capture.specs.declared.order.Order.TheVariants.{Big}
use Rattle.capture.specs.declared.pcap.Pcap.{Pcap}
use Rattle.capture.specs.declared.record.Record.{Record}
use Rattle.capture.specs.declared.stop.Stop.{Stop}
use Rattle.capture.specs.declared.stop.Stop.TheVariants.{End, Fault}
use Rattle.capture.specs.Pcap.{pcap_record}
use Rattle.capture.specs.Pcapng.{SectionText, room_in, closed, section_at, interface_at, packet_at, timed_packet, simple_packet}
use Rattle.capture.specs.Pcapng.{other_at, next_other, next_section, next_interface, block_of, block_at}
use Rattle.capture.specs.Taking.{Reading, order_of, field, next_part, next_header, skipped, captured_at, checked_version}
use Rattle.capture.proofs.Prompting.{read}

-- its refusals are faults
pub record IsInside {A : Type 0} (reading : Reading A) : Type 0 where
  pub by : (bytes : List ℕ) → reading bytes ≡ Err End → ⊥

pub inside-then : {A B : Type 0} {first : Reading A} {next : A → Reading B} → IsInside first → ((value : A) → IsInside (next value))
    → IsInside (first >>= next)
inside-then {A} {B} {first} {next} p q = record { by = λ bytes e. by_first bytes (first bytes) refl e }
  where
    by_first : (bytes : List ℕ) (r : Result (A × List ℕ) Stop) → first bytes ≡ r → then_read next r ≡ Err End → ⊥
    by_first bytes (Ok r) is e = (q r.0).by r.1 e
    by_first bytes (Err End) is e = p.by bytes is
    by_first bytes (Err (Fault fault)) is e = absurd cc

pub inside-gives : {A : Type 0} (value : A) → IsInside (gives {E = Stop} value)
inside-gives value = record { by = λ bytes e. absurd cc }

pub inside-refuses : {A : Type 0} (fault : CaptureFault) → IsInside (refuses {E = Stop} {A = A} (Fault fault))
inside-refuses fault = record { by = λ bytes e. absurd cc }

pub inside-some_or : {A : Type 0} (fault : CaptureFault) (o : Option A) → IsInside (some_or (Fault fault) o)
inside-some_or fault None = inside-refuses fault
inside-some_or fault (Some value) = inside-gives value

pub inside-if : {A : Type 0} (b : Bool) {one other : Reading A} → IsInside one → IsInside other → IsInside (if b then one else other)
inside-if true p q = p
inside-if false p q = q

pub inside-part : (n : ℕ) → IsInside (next_part n)
inside-part n = record { by = λ bytes. by_length bytes (ltb (length bytes) n) }
  where
    by_length : (bytes : List ℕ) (b : Bool) → (if b then Err (Fault Cut) else read (take n bytes) (drop n bytes)) ≡ Err End → ⊥
    by_length bytes true e = absurd cc
    by_length bytes false e = absurd cc

pub inside-captured : (n : ℕ) → IsInside (captured_at n)
unfolding captured_at
inside-captured n = inside-if _ (inside-refuses _) (inside-part n)

-- a reading behind a header finds the end only where there are no bytes
pub header_first : {A : Type 0} (n : ℕ) (next : List ℕ → Reading A) → ((header : List ℕ) → IsInside (next header)) → (bytes : List ℕ)
    → (next_header n >>= next) bytes ≡ Err End → bytes ≡ []
unfolding next_header
header_first n next inside [] e = refl
header_first n next inside (x ∷ bytes) e =
    by_rest (next_part (n - 1) bytes) refl e
  where
    by_rest : (r : Result (List ℕ × List ℕ) Stop) → next_part (n - 1) bytes ≡ r
        → then_read next (then_read (λ rest. gives ((x ∷ []) ++ rest)) r) ≡ Err End → (x ∷ bytes) ≡ []
    by_rest (Ok r) is e = absurd ((inside ((x ∷ []) ++ r.0)).by r.1 e)
    by_rest (Err End) is e = absurd ((inside-part (n - 1)).by bytes is)
    by_rest (Err (Fault fault)) is e = absurd cc

pub record_end : (f : Pcap) (bytes : List ℕ) → pcap_record f bytes ≡ Err End → bytes ≡ []
unfolding pcap_record
record_end f bytes e =
    header_first 16 _ (λ header. inside-then (inside-captured _) (λ captured. inside-gives _)) bytes e

-- ---- pcapng

inside-room : (fields total : ℕ) → IsInside (room_in fields total)
inside-room fields total = inside-if _ (inside-if _ (inside-refuses _) (inside-gives _)) (inside-refuses _)

inside-closed : (order : Order) (n total : ℕ) → IsInside (closed order n total)
unfolding closed skipped
inside-closed order n total =
    inside-then (inside-then (inside-part n) (λ bytes. inside-gives _)) (λ gone. inside-then (inside-part 4)
    (λ again. inside-if _ (inside-gives _) (inside-refuses _)))

inside-version : (wanted major : ℕ) → IsInside (checked_version wanted major)
inside-version wanted major = inside-if _ (inside-gives _) (inside-refuses _)

inside-section : (claimed : List ℕ) → IsInside (section_at claimed)
unfolding section_at
inside-section claimed =
    inside-then (inside-part 4) (λ magic. inside-then (inside-some_or NotCapture (order_of (field Big 0 4 magic)))
    (λ order. inside-then (inside-room 16 (field order 0 4 claimed)) (λ room. inside-then (inside-part 12)
    (λ version. inside-then (inside-version 1 (field order 0 2 version))
    (λ checked. inside-then (inside-closed order room (field order 0 4 claimed)) (λ gone. inside-gives order))))))

inside-interface : (now : SectionText) (total : ℕ) → IsInside (interface_at now total)
unfolding interface_at
inside-interface now total =
    inside-then (inside-room 8 total) (λ room. inside-then (inside-part 8) (λ fields. inside-then (inside-captured room)
    (λ options. inside-then (inside-some_or _ _) (λ clock. inside-then (inside-closed now.order 0 total)
    (λ gone. inside-then (inside-if _ (inside-gives _) (inside-refuses _)) (λ place. inside-gives _))))))

inside-packet : (order : Order) (total room captured : ℕ) (head : Record) → IsInside (packet_at order total room captured head)
unfolding packet_at
inside-packet order total room captured head =
    inside-then (inside-if _ (inside-refuses _) (inside-gives _)) (λ left. inside-then (inside-captured captured)
    (λ bytes. inside-then (inside-closed order left total) (λ gone. inside-gives _)))

inside-timed : (n : ℕ) (now : SectionText) (total : ℕ) → IsInside (timed_packet n now total)
unfolding timed_packet
inside-timed n now total =
    inside-then (inside-room 20 total) (λ room. inside-then (inside-part 20)
    (λ fields. inside-then (inside-some_or _ _) (λ on. inside-packet now.order total room _ _)))

inside-simple : (now : SectionText) (total : ℕ) → IsInside (simple_packet now total)
unfolding simple_packet
inside-simple now total =
    inside-then (inside-room 4 total) (λ room. inside-then (inside-part 4)
    (λ fields. inside-then (inside-some_or _ _) (λ on. inside-packet now.order total room _ _)))

inside-other : (order : Order) (total : ℕ) → IsInside (next_other order total)
unfolding next_other other_at
inside-other order total =
    inside-then (inside-then (inside-room 0 total) (λ room. inside-closed order room total)) (λ gone. inside-gives _)

inside-kind : (now : SectionText) (kind total : ℕ) (claimed : List ℕ) → IsInside (block_of now kind total claimed)
unfolding next_section next_interface
inside-kind now kind total claimed =
    inside-if (kind == 0x0a0d0d0a) (inside-then (inside-section claimed) (λ order. inside-gives _))
    (inside-if (kind == 1) (inside-then (inside-interface now total) (λ on. inside-gives _))
    (inside-if (kind == 2) (inside-timed 2 now total) (inside-if (kind == 3) (inside-simple now total)
    (inside-if (kind == 6) (inside-timed 4 now total) (inside-other now.order total)))))

pub block_end : (now : SectionText) (bytes : List ℕ) → block_at now bytes ≡ Err End → bytes ≡ []
unfolding block_at
block_end now bytes e =
    header_first 8 _ (λ head. inside-kind now (field now.order 0 4 head) (field now.order 4 4 head) (take 4 (drop 4 head))) bytes e
