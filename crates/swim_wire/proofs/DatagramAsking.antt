-- Where a read of a datagram requests memory.
use Rattle.std.proofs.Common.{◌≡◌, inl, inr, ℕ, ◌*◌, ◌≤◌, Bool, true, false, eqb, cond, List, [], ◌∷◌, ◌++◌, length}
use Rattle.std.proofs.Common.{take, drop, Result, Ok, Err, refl, sym, ap, subst, ◌∙◌, arith, length-take}
use Rattle.std.proofs.Common.{take-append-drop, eqb-true}
use Rattle.std.specs.Int.{w16, from_be_bytes}
use Rattle.swim_wire.specs.declared.fault.WireFault.{WireFault}
use Rattle.swim_wire.specs.Asking.{PacketAsks, PartsAsk, CompoundAsks}
use Rattle.swim_wire.specs.Checks.{BeginsWith}
use Rattle.swim_wire.specs.Datagrams.{alone, compound_at, whole_datagram}
use Rattle.swim_wire.specs.Packet.{PacketValue}
use Rattle.swim_wire.specs.Parts.{lengths_in}
use Rattle.swim_wire.specs.Reading.{nothing_after, whole_packet}
use Rattle.swim_wire.proofs.Asking.{PacketText-asks}
use Rattle.swim_wire.proofs.DatagramTexts.{packet_list}
use Rattle.swim_wire.proofs.PacketTexts.{whole_takes}
use Rattle.swim_wire.proofs.Parts.{as_length}

-- a packet that was read
pub read_asks : (bytes : List ℕ) (p : PacketValue) → whole_packet bytes ≡ Ok p → PacketAsks bytes
read_asks bytes p e = PacketText-asks bytes p (whole_takes bytes p e)

long_enough : (n : ℕ) (bytes : List ℕ) → n ≤ length bytes → length (take n bytes) ≡ n
long_enough n bytes le = omega (arith, length-take n bytes)

-- the first of the parts requests memory
pub part_asks : (bytes two : List ℕ) (len : ℕ) (rest part : List ℕ) → 2 ≤ length bytes → two ≡ take 2 bytes
    → len ≡ from_be_bytes w16 two → len ≤ length rest → part ≡ take len rest → PacketAsks part → PartsAsk (lengths_in bytes) rest
part_asks bytes two len rest part le is e fits part_is asks =
    subst (λ (lens : List ℕ). PartsAsk lens rest) (sym (as_length bytes two len le is e))
    (take len rest, drop len rest, long_enough len rest fits, sym (take-append-drop len rest), inl (subst PacketAsks part_is asks))

-- one after it requests memory
pub later_part_asks : (bytes two later : List ℕ) (len : ℕ) (rest behind : List ℕ) → 2 ≤ length bytes
    → two ≡ take 2 bytes → later ≡ drop 2 bytes
    → len ≡ from_be_bytes w16 two → len ≤ length rest → behind ≡ drop len rest
    → PartsAsk (lengths_in later) behind → PartsAsk (lengths_in bytes) rest
later_part_asks bytes two later len rest behind le is later_is e fits behind_is asks =
    let there : PartsAsk (lengths_in (drop 2 bytes)) (drop len rest) =
    subst (λ (bs : List ℕ). PartsAsk (lengths_in bs) (drop len rest)) later_is (subst (PartsAsk (lengths_in later)) behind_is asks) in
    subst (λ (lens : List ℕ). PartsAsk lens rest) (sym (as_length bytes two len le is e))
    (take len rest, drop len rest, long_enough len rest fits, sym (take-append-drop len rest), inr there)

-- the parts are after their count and lengths
pub compound_asks : (body rest lens parts : List ℕ) (count n : ℕ) → body ≡ count ∷ rest → n ≡ count → 2 * n ≤ length rest
    → lens ≡ take (2 * n) rest → parts ≡ drop (2 * n) rest → PartsAsk (lengths_in lens) parts → CompoundAsks body
compound_asks body rest lens parts count n is same le lens_is parts_is asks =
    let long : length lens ≡ 2 * count =
    ap length lens_is ∙ long_enough (2 * n) rest le ∙ ap (λ (k : ℕ). 2 * k) same in
    let whole : rest ≡ lens ++ parts =
    sym (take-append-drop (2 * n) rest) ∙ ap (λ (l : List ℕ). l ++ drop (2 * n) rest) (sym lens_is) ∙ ap
    (λ (p : List ℕ). lens ++ p) (sym parts_is) in
    subst CompoundAsks (sym is) (lens, parts, long, whole, asks)

-- a single packet that was read
pub alone_asks : (bytes : List ℕ) (packets : List PacketValue) → ¬ BeginsWith 7 bytes
    → whole_datagram bytes ≡ packet_list packets → PacketAsks bytes
alone_asks [] packets other e = absurd cc
alone_asks (first ∷ rest) packets other e = by (eqb first 7) refl e
  where
    packet : (r : Result PacketValue WireFault) → whole_packet (first ∷ rest) ≡ r
        → alone r ≡ packet_list packets → PacketAsks (first ∷ rest)
    packet (Ok p) is e = read_asks (first ∷ rest) p is
    packet (Err error) is e = absurd cc

    by : (t : Bool) → eqb first 7 ≡ t
        → cond t (nothing_after (compound_at rest)) (alone (whole_packet (first ∷ rest))) ≡ packet_list packets → PacketAsks (first ∷ rest)
    by true t e = absurd (other (rest, ap (λ (n : ℕ). n ∷ rest) (eqb-true first 7 t)))
    by false t e = packet (whole_packet (first ∷ rest)) refl e
