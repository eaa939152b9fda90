-- The maximum length of the canonical bytes of a packet.
use Rattle.std.proofs.Common.{◌≡◌, ℕ, ◌+◌, ◌<◌, ◌≤◌, ◌^◌, Bool, true, false, cond, ltb, List, [], ◌∷◌, length}
use Rattle.std.proofs.Common.{length-append, ap, lit≤, inl, inr, arith}
use Rattle.std.specs.List.{flat_map}
use Rattle.std.specs.Int.{bytes_high_first}
use Rattle.swim_claim.specs.declared.claim.Claim.{Claim}
use Rattle.swim_claim.specs.declared.claim.Claim.TheVariants.{Alive, Suspect, Confirm, Leave}
use Rattle.swim_claim.specs.Claim.{IsLegalClaim}
use Rattle.swim_pack.specs.Spelling.{number_text, raw_text}
use Rattle.swim_wire.specs.Canonical.{claim_bytes, packet_bytes}
use Rattle.swim_wire.specs.Layout.{Pairs, Spelled}
use Rattle.swim_wire.specs.Layout.Spelled.{number, raw, flag}
use Rattle.swim_wire.specs.Packet.{PacketValue, IsLegalPacket}
use Rattle.swim_wire.specs.Pairs.{value_text, pair_text}
use Rattle.swim_wire.proofs.SpelledPairs.{alive_pairs, accusation_pairs, alive_bytes-pairs, accusation_bytes-pairs}

either : (b : Bool) (x y : List ℕ) (n : ℕ) → length x ≤ n → length y ≤ n → length (cond b x y) ≤ n
either true x y n p q = p
either false x y n p q = q

pub length-number_text : (v : ℕ) → length (number_text v) ≤ 9
unfolding number_text
length-number_text v =
    either (ltb v 128) _ _ 9 (lit≤ tt)
    (either (ltb v (2 ^ 8)) _ _ 9 (lit≤ tt) (either (ltb v (2 ^ 16)) _ _ 9 (lit≤ tt) (either (ltb v (2 ^ 32)) _ _ 9 (lit≤ tt) (lit≤ tt))))

pub length-raw_text : (s : List ℕ) → length (raw_text s) ≤ length s + 3
unfolding raw_text
length-raw_text s =
    let head : List ℕ = cond (ltb (length s) 32) ((0xa0 + length s) ∷ []) (0xda ∷ bytes_high_first 2 (length s)) in
    let short : length head ≤ 3 = either (ltb (length s) 32) _ _ 3 (lit≤ tt) (lit≤ tt) in
    omega (arith, length-append head s)

-- the maximum number of bytes
abbrev pub size : Spelled → ℕ
size (number v) = 9
size (raw s) = length s + 3
size (flag f) = 1

abbrev pub sizes : Pairs → ℕ
sizes [] = 0
sizes (pair ∷ pairs) = (length pair.0 + 3 + size pair.1) + sizes pairs

length-value_text : (value : Spelled) → length (value_text value) ≤ size value
length-value_text (number v) = length-number_text v
length-value_text (raw s) = length-raw_text s
length-value_text (flag true) = lit≤ tt
length-value_text (flag false) = lit≤ tt

length-pairs : (pairs : Pairs) → length (flat_map pair_text pairs) ≤ sizes pairs
length-pairs [] = lit≤ tt
length-pairs (pair ∷ pairs) =
    omega (
      arith,
      length-append (pair_text pair) (flat_map pair_text pairs),
      length-append (raw_text pair.0) (value_text pair.1),
      length-raw_text pair.0,
      length-value_text pair.1,
      length-pairs pairs,
    )

along : {x y : List ℕ} → x ≡ y → length y < 2 ^ 16 → length x < 2 ^ 16
along e short = omega (arith, ap length e)

accusation_short : (type : ℕ) (name : List ℕ) (inc : ℕ) (from : List ℕ) → length name ≤ 1024 → length from ≤ 1024
    → length (type ∷ 0x83 ∷ flat_map pair_text (accusation_pairs name inc from)) < 2 ^ 16
accusation_short type name inc from most from_most = omega (arith, length-pairs (accusation_pairs name inc from))

claim_short : (c : Claim) (from : List ℕ) → IsLegalClaim c → IsLegalPacket c from → length (claim_bytes c from) < 2 ^ 16
claim_short (Alive name inc details) from legal made =
    let addr : length details.addr ≤ 16 = elim legal.details.addr [ inl is ↦ omega arith | inr is ↦ omega arith ] in
    let vsn : length details.vsn ≤ 6 = elim legal.details.vsn [ inl is ↦ omega arith | inr is ↦ omega arith ] in
    let meta = legal.details.meta in
    let most = legal.name.most in
    along (alive_bytes-pairs name inc details) (omega (arith, length-pairs (alive_pairs name inc details)))
claim_short (Suspect name inc) from legal made = along (accusation_bytes-pairs 3 name inc from)
    (accusation_short 3 name inc from legal.name.most made.1)
claim_short (Confirm name inc) from legal made = along (accusation_bytes-pairs 5 name inc from)
    (accusation_short 5 name inc from legal.name.most made.1)
claim_short (Leave name inc) from legal made = along (accusation_bytes-pairs 5 name inc from)
    (accusation_short 5 name inc from legal.name.most made.1)

-- so two bytes hold its length
pub packet_bytes-short : (p : PacketValue) → IsLegalClaim p.claim → IsLegalPacket p.claim p.from → length (packet_bytes p) < 2 ^ 16
packet_bytes-short p legal made = claim_short p.claim p.from legal made
