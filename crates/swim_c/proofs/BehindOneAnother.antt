-- Packets that are read one after another.
use Rattle.std.proofs.Common.{◌≡◌, ◌≢◌, ℕ, suc, ◌+◌, ◌<◌, List, [], ◌∷◌, ◌++◌, ◌≤◌, length, take, drop, get_or, Err}
use Rattle.std.proofs.Common.{refl, sym, ap, subst, ◌∙◌, append-nil}
use Rattle.std.proofs.lemmas.List.{append_assoc, take_all, take_more, take-append-drop}
use Rattle.std.proofs.Math.Seq.{split_at}
use Rattle.swim_wire.specs.declared.fault.WireFault.{WireFault}
use Rattle.swim_wire.specs.declared.fault.WireFault.TheVariants.{Ended, Fault, Trailing}
use Rattle.swim_wire.specs.Asking.{PacketAsks}
use Rattle.swim_wire.specs.Checks.{ReasonForWhole}
use Rattle.swim_wire.specs.Packet.{PacketValue}
use Rattle.swim_wire.specs.Reading.{whole_packet}
use Rattle.swim_wire.specs.Texts.{PacketText}
use Rattle.swim_c.specs.Compound.{PacketTexts, LacksPackets, PackingAsks}
use Rattle.swim_c.specs.Compound.PacketTexts.{none, one}

-- the bytes begin with the first packets, and the rest is still to come
pub record ReadTo (lens bytes : List ℕ) (i : ℕ) (packets : List PacketValue) (rest : List ℕ) : Type 0 where
  pub front : List ℕ
  pub texts : PacketTexts (take i lens) front packets
  pub parts : bytes ≡ front ++ rest

-- one more packet after the others
PacketTexts-push : (lens front text : List ℕ) (packets : List PacketValue) (p : PacketValue)
    → PacketTexts lens front packets → PacketText text p
    → PacketTexts (lens ++ length text ∷ []) (front ++ text) (packets ++ p ∷ [])
PacketTexts-push _ _ text _ p none is = subst
    (λ (b : List ℕ). PacketTexts (length text ∷ []) b (p ∷ [])) (append-nil text)
    (one text [] [] p [] is none)
PacketTexts-push _ _ text _ p (one first rest lens q packets is_first texts) is =
    subst (λ (b : List ℕ). PacketTexts (length first ∷ lens ++ length text ∷ []) b (q ∷ packets ++ p ∷ []))
    (sym (append_assoc first rest text))
    (one first (rest ++ text) (lens ++ length text ∷ []) q (packets ++ p ∷ []) is_first
    (PacketTexts-push lens rest text packets p texts is))

-- the next packet is read
pub ReadTo-more : (lens bytes : List ℕ) (i len d : ℕ) (packets : List PacketValue) (rest text behind : List ℕ)
    (p : PacketValue) → i < length lens → len ≡ get_or lens i d
    → ReadTo lens bytes i packets rest → rest ≡ text ++ behind → length text ≡ len → PacketText text p
    → ReadTo lens bytes (i + 1) (packets ++ p ∷ []) behind
ReadTo-more lens bytes i len d packets rest text behind p in_range is read parts size packet =
    let grown : take i lens ++ length text ∷ [] ≡ take (i + 1) lens = ap
    (λ (n : ℕ). take i lens ++ n ∷ []) (size ∙ is) ∙ sym (take_more lens i d in_range) in
    record {
      front = read.front ++ text;
      texts =
          subst (λ (ls : List ℕ). PacketTexts ls (read.front ++ text) (packets ++ p ∷ [])) grown
          (PacketTexts-push (take i lens) read.front text packets p read.texts packet);
      parts = read.parts ∙ ap (λ (r : List ℕ). read.front ++ r) parts ∙ sym (append_assoc read.front text behind);
    }

-- the lengths around the i-th
around : (lens : List ℕ) (i len d n : ℕ) → i < length lens → len ≡ get_or lens i d → n ≡ len → lens ≡ take i lens ++ n ∷ drop (suc i) lens
around lens i len d n in_range is size =
    split_at lens i d in_range ∙ ap (λ (m : ℕ). take i lens ++ m ∷ drop (suc i) lens) (sym is ∙ sym size)

-- the next packet is cut
pub cut_off : (lens bytes : List ℕ) (i len d : ℕ) (packets : List PacketValue) (rest : List ℕ) → i < length lens → len ≡ get_or lens i d
    → ReadTo lens bytes i packets rest → length rest < len → LacksPackets lens bytes Ended
cut_off lens bytes i len d packets rest in_range is read short =
    LacksPackets.cut read.front rest (take i lens) (drop (suc i) lens) len packets read.texts
    (around lens i len d len in_range is refl) read.parts short refl

-- the next one is not a packet
pub no_packet : (lens bytes : List ℕ) (i len d : ℕ) (packets : List PacketValue) (rest text behind : List ℕ)
    (fault : WireFault) → i < length lens → len ≡ get_or lens i d
    → ReadTo lens bytes i packets rest → rest ≡ text ++ behind → length text ≡ len
    → whole_packet text ≡ Err fault → ReasonForWhole fault text → fault ≢ Fault → LacksPackets lens bytes fault
no_packet lens bytes i len d packets rest text behind error in_range is read parts size stops reason no_end =
    LacksPackets.wrong read.front text behind (take i lens) (drop (suc i) lens) packets read.texts
    (around lens i len d (length text) in_range is size)
    (read.parts ∙ ap (λ (r : List ℕ). read.front ++ r) parts) stops reason no_end

-- the next one takes memory
pub next_asks : (lens bytes : List ℕ) (i len d : ℕ) (packets : List PacketValue) (rest text behind : List ℕ)
    → i < length lens → len ≡ get_or lens i d
    → ReadTo lens bytes i packets rest → rest ≡ text ++ behind → length text ≡ len → PacketAsks text → PackingAsks lens bytes
next_asks lens bytes i len d packets rest text behind in_range is read parts size asks =
    PackingAsks.next read.front text behind (take i lens) (drop (suc i) lens) packets read.texts
    (around lens i len d (length text) in_range is size)
    (read.parts ∙ ap (λ (r : List ℕ). read.front ++ r) parts) asks

-- all packets are read
all_texts : (lens bytes : List ℕ) (i : ℕ) (packets : List PacketValue) (rest : List ℕ) → length lens ≤ i
    → (read : ReadTo lens bytes i packets rest)
    → PacketTexts lens read.front packets
all_texts lens bytes i packets rest done read = subst (λ (ls : List ℕ). PacketTexts ls read.front packets) (take_all i lens done) read.texts

pub all_read : (lens bytes : List ℕ) (i : ℕ) (packets : List PacketValue) (rest : List ℕ) → length lens ≤ i
    → ReadTo lens bytes i packets rest → rest ≡ []
    → PacketTexts lens bytes packets
all_read lens bytes i packets rest done read empty =
    let whole : bytes ≡ read.front = read.parts ∙ ap (λ (r : List ℕ). read.front ++ r) empty ∙ append-nil read.front in
    subst (λ (b : List ℕ). PacketTexts lens b packets) (sym whole) (all_texts lens bytes i packets rest done read)

-- bytes are left after all packets
pub left_over : (lens bytes : List ℕ) (i : ℕ) (packets : List PacketValue) (rest : List ℕ) → length lens ≤ i
    → ReadTo lens bytes i packets rest → rest ≢ []
    → LacksPackets lens bytes Trailing
left_over lens bytes i packets rest done read some =
    LacksPackets.trailing read.front rest packets (all_texts lens bytes i packets rest done read) read.parts some refl

-- there is a packet for each length
pub length-packets : (lens bytes : List ℕ) (packets : List PacketValue) → PacketTexts lens bytes packets → length packets ≡ length lens
length-packets _ _ _ none = refl
length-packets _ _ _ (one text rest lens p packets is texts) = ap suc (length-packets lens rest packets texts)

-- bytes that were split
pub in_parts : (rest text behind : List ℕ) (mid : ℕ) → text ≡ take mid rest → behind ≡ drop mid rest → rest ≡ text ++ behind
in_parts rest text behind mid front back =
    sym (ap (λ (z : List ℕ). z ++ behind) front ∙ ap (λ (z : List ℕ). take mid rest ++ z) back ∙ take-append-drop mid rest)
