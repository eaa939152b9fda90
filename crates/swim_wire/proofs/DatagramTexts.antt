-- A datagram that is read is a text of its packets, and each text is read.
use Rattle.std.proofs.Common.{◌≡◌, ◌⊎◌, inl, inr, ⊎_elim, ℕ, zero, suc, ◌^◌, ◌<◌, ◌≤◌, Bool, true, false, cond, eqb}
use Rattle.std.proofs.Common.{ltb, List, [], ◌∷◌, ◌++◌, length, map, get_or, take, drop, All, flat_map, Result, Ok, Err}
use Rattle.std.proofs.Common.{refl, sym, ap, subst, ◌∙◌, append_assoc, append-nil, length-take, take-append-drop}
use Rattle.std.proofs.Common.{ltb-false, eqb-true, arith}
use Rattle.std.proofs.lemmas.Bool.{cases_Bool}
use Rattle.std.proofs.lemmas.Bool.Decides.{nat_tests}
use Rattle.std.proofs.lemmas.List.Elements.{All-cons, All-nil}
use Rattle.std.proofs.lemmas.Nat.{be_bytes_2, from_be_bytes-to_be_bytes_2}
use Rattle.std.specs.Int.{w16, to_be_bytes, from_be_bytes}
use Rattle.swim_claim.specs.Bytes.{AreBytes}
use Rattle.swim_pack.specs.declared.fault.PackFault.TheVariants as packs
use Rattle.swim_pack.specs.Composing.{then_read, ◌>>=◌, gives, lift, lift_error}
use Rattle.swim_pack.specs.Reading.{next_bytes}
use Rattle.swim_pack.proofs.Numbers.{next_bytes_again}
use Rattle.swim_wire.specs.declared.fault.WireFault.{WireFault}
use Rattle.swim_wire.specs.Datagrams.{length_at, lengths_at, alone, is_packet_type, packets_of, parts_at, compound_at, whole_datagram}
use Rattle.swim_wire.specs.Fault.{fault_of_pack}
use Rattle.swim_wire.specs.Packet.{PacketValue}
use Rattle.swim_wire.specs.Reading.{checked, nothing_after, whole_packet}
use Rattle.swim_wire.specs.Texts.{PacketText, IsPacketPart, PartTexts, compound_bytes, DatagramText}
use Rattle.swim_wire.specs.Texts.PacketText.{alive, suspect, leave, confirm}
use Rattle.swim_wire.specs.Texts.DatagramText.{packet, compound}
use Rattle.swim_wire.proofs.Readings.{read, read_value, read_rest, then_ok, parts_to, parts_joined}
use Rattle.swim_wire.proofs.Checking.{passed, passed_is, failed, split, checked_ok, nothing_after_ok}
use Rattle.swim_wire.proofs.PacketTexts.{whole_takes, whole_again}

-- ---- bytes at the start

-- this many bytes were consumed
pub bytes_takes : (n : ℕ) (bytes s rest : List ℕ) → lift fault_of_pack (next_bytes n) bytes ≡ read s rest
    → (length s ≡ n) × (bytes ≡ s ++ rest)
bytes_takes n bytes s rest e = by (ltb (length bytes) n) refl e
  where
    by : (b : Bool) → ltb (length bytes) n ≡ b
        → lift_error fault_of_pack (cond b (Err packs.Ended)
        (Ok (take n bytes, drop n bytes))) ≡ read s rest
        → (length s ≡ n) × (bytes ≡ s ++ rest)
    by true t e = absurd cc
    by false t e =
        let long : n ≤ length bytes = ltb-false _ _ t in
        let s_is = read_value (take n bytes) s (drop n bytes) rest e in
        let rest_is = read_rest (take n bytes) s (drop n bytes) rest e in
        (rw (← s_is) (omega (arith, length-take n bytes)), rw (← s_is, ← rest_is) (sym (take-append-drop n bytes)))

pub bytes_again : (s rest : List ℕ) → lift fault_of_pack (next_bytes (length s)) (s ++ rest) ≡ read s rest
bytes_again s rest = ap (lift_error fault_of_pack) (next_bytes_again s rest)

AreBytes-front : (front rest : List ℕ) → AreBytes (front ++ rest) → (i : ℕ) → get_or front i 0 < 256
AreBytes-front [] rest bytes i = omega arith
AreBytes-front (byte ∷ front) rest bytes zero = bytes 0 byte (omega arith)
AreBytes-front (byte ∷ front) rest bytes (suc i) = AreBytes-front front rest (λ k d lt. bytes (suc k) d (omega arith)) i

AreBytes-back : (front rest : List ℕ) → AreBytes (front ++ rest) → AreBytes rest
AreBytes-back [] rest bytes = bytes
AreBytes-back (byte ∷ front) rest bytes = AreBytes-back front rest (λ k d lt. bytes (suc k) d (omega arith))

-- ---- the length of a part

length_takes : (bytes : List ℕ) (len : ℕ) (rest : List ℕ) → AreBytes bytes → length_at bytes ≡ read len rest →
    (bytes ≡ to_be_bytes w16 len ++ rest) × (len < 2 ^ 16)
unfolding length_at
length_takes bytes len rest are e =
    let t = then_ok (lift fault_of_pack (next_bytes 2) bytes) (λ two. gives (from_be_bytes w16 two)) len rest e in
    let two = bytes_takes 2 bytes t.0 t.1 t.2 in
    let small : (i : ℕ) → get_or t.0 i 0 < 256 = AreBytes-front t.0 t.1 (subst AreBytes two.1 are) in
    let is = read_value (from_be_bytes w16 t.0) len t.1 rest t.3 in
    let written = be_bytes_2 t.0 len two.0 small (sym is) in (
      parts_to (to_be_bytes w16 len) (two.1 ∙ ap (λ (s : List ℕ). s ++ t.1) (sym written))
          (read_rest (from_be_bytes w16 t.0) len t.1 rest t.3),
      below t.0 len small is,
    )
  where
    below : (two : List ℕ) (len : ℕ) → ((i : ℕ) → get_or two i 0 < 256) → from_be_bytes w16 two ≡ len → len < 2 ^ 16
    below two len small is =
        let high = small 0 in
        let low = small 1 in
        omega arith

length_again : (len : ℕ) (rest : List ℕ) → len < 2 ^ 16 → length_at (to_be_bytes w16 len ++ rest) ≡ read len rest
unfolding length_at
length_again len rest lt =
    let two = bytes_again (to_be_bytes w16 len) rest in
    let value = from_be_bytes-to_be_bytes_2 len lt in
    ap (then_read (λ bytes. gives (from_be_bytes w16 bytes))) two ∙ ap (λ (v : ℕ). read v rest) value

pub lengths_takes : (n : ℕ) (bytes lens rest : List ℕ) → AreBytes bytes → lengths_at n bytes ≡ read lens rest
    → (length lens ≡ n) × (bytes ≡ flat_map (to_be_bytes w16) lens ++ rest) × All (λ len. len < 2 ^ 16) lens × AreBytes rest
unfolding lengths_at
lengths_takes zero bytes lens rest are e =
    let none : [] ≡ lens = read_value [] lens bytes rest e in
    let same = read_rest [] lens bytes rest e in (
      ap length (sym none),
      same ∙ ap (λ (ls : List ℕ). flat_map (to_be_bytes w16) ls ++ rest) none,
      subst (λ ls. All (λ len. len < 2 ^ 16) ls) none (All-nil (λ len. len < 2 ^ 16)),
      subst AreBytes same are,
    )
lengths_takes (suc n) bytes lens rest are e =
    let t = then_ok (length_at bytes) _ lens rest e in
    let one = length_takes bytes t.0 t.1 are t.2 in
    let u = then_ok (lengths_at n t.1) (λ more. gives (t.0 ∷ more)) lens rest t.3 in
    let more = lengths_takes n t.1 u.0 u.1 (AreBytes-back (to_be_bytes w16 t.0) t.1 (subst AreBytes one.0 are)) u.2 in
    let is = read_value (t.0 ∷ u.0) lens u.1 rest u.3 in
    let same = read_rest (t.0 ∷ u.0) lens u.1 rest u.3 in
    subst (λ ls. (length ls ≡ suc n) × (bytes ≡ flat_map (to_be_bytes w16) ls ++ rest) × All (λ len. len < 2 ^ 16) ls × AreBytes rest) is (
      ap suc more.0,
      parts_joined (to_be_bytes w16 t.0) (flat_map (to_be_bytes w16) u.0) rest one.0
          (parts_to (flat_map (to_be_bytes w16) u.0) more.1 same),
      All-cons (λ len. len < 2 ^ 16) t.0 u.0 one.1 more.2,
      subst AreBytes same more.3,
    )

lengths_again : (parts : List (List ℕ)) (rest : List ℕ) → All (λ part. length part < 2 ^ 16) parts
    → lengths_at (length parts) (flat_map (λ part. to_be_bytes w16 (length part)) parts ++ rest) ≡ read (map length parts) rest
unfolding lengths_at
lengths_again [] rest short = refl
lengths_again (part ∷ parts) rest short =
    let one = length_again (length part) (flat_map (λ p. to_be_bytes w16 (length p)) parts ++ rest) (short 0 part (omega arith)) in
    let more = lengths_again parts rest (λ k d lt. short (suc k) d (omega arith)) in
    rw (append_assoc (to_be_bytes w16 (length part)) (flat_map (λ p. to_be_bytes w16 (length p)) parts) rest, one, more) refl

-- ---- the packets of a part

-- the packet that a part is by its first byte, or none
abbrev pub PartText : List ℕ → List PacketValue → Type 0
PartText part packets = ((p : PacketValue) × PacketText part p × (packets ≡ p ∷ [])) ⊎ ((¬ IsPacketPart part) × (packets ≡ []))

pub type_is : (first : ℕ) → is_packet_type first ≡ true → (first ≡ 3) ⊎ (first ≡ 4) ⊎ (first ≡ 5)
type_is first t = grind (arith, nat_tests)

type_is_not : (first : ℕ) → is_packet_type first ≡ false → ¬ ((first ≡ 3) ⊎ (first ≡ 4) ⊎ (first ≡ 5))
type_is_not first t h = grind (arith, nat_tests)

type_again : (first : ℕ) → (first ≡ 3) ⊎ (first ≡ 4) ⊎ (first ≡ 5) → is_packet_type first ≡ true
type_again first h = grind (arith, nat_tests)

abbrev pub packet_list : List PacketValue → Result (List PacketValue) WireFault
packet_list ps = Ok ps

alone_ok : (r : Result PacketValue WireFault) (packets : List PacketValue) → alone r ≡ packet_list packets →
    (p : PacketValue) × (r ≡ passed p) × (packets ≡ p ∷ [])
alone_ok (Ok p) packets e = (p, refl, passed_is (p ∷ []) packets e)
alone_ok (Err error) packets e = absurd cc

pub part_takes : (part : List ℕ) (packets : List PacketValue) → packets_of part ≡ packet_list packets → PartText part packets
part_takes [] packets e = inr ((λ h. h), passed_is [] packets e)
part_takes (first ∷ rest) packets e =
    split (is_packet_type first) (λ r. r ≡ packet_list packets
    → PartText (first ∷ rest) packets) (alone (whole_packet (first ∷ rest))) (Ok [])
    (λ t own. let p = alone_ok (whole_packet (first ∷ rest)) packets own in inl (p.0, whole_takes (first ∷ rest) p.0 p.1, p.2))
    (λ t none. inr (type_is_not first t, passed_is [] packets none)) e

-- a packet starts with its type
pub begins : (b : List ℕ) (p : PacketValue) → PacketText b p → (first : ℕ) × (rest : List ℕ) × (b ≡ first ∷ rest) ×
    (eqb first 7 ≡ false) × ((first ≡ 3) ⊎ (first ≡ 4) ⊎ (first ≡ 5))
begins b p (alive m pairs type text named legal is) = (4, m, type, refl, inr (inl refl))
begins b p (suspect m pairs type text named is) = (3, m, type, refl, inl refl)
begins b p (leave m pairs type text named own is) = (5, m, type, refl, inr (inr refl))
begins b p (confirm m pairs type text named other is) = (5, m, type, refl, inr (inr refl))

read_as_packet : (first : ℕ) (rest : List ℕ) → is_packet_type first ≡ true → packets_of (first ∷ rest) ≡ alone (whole_packet (first ∷ rest))
read_as_packet first rest t = rw t refl

passed_over : (first : ℕ) (rest : List ℕ) → ¬ IsPacketPart (first ∷ rest) → packets_of (first ∷ rest) ≡ packet_list []
passed_over first rest other =
    let t : is_packet_type first ≡ false = ⊎_elim (λ yes. absurd (other (type_is first yes)))
    (λ no. no) (cases_Bool (is_packet_type first)) in
    rw t refl

part_again : (part : List ℕ) (packets : List PacketValue) → PartText part packets → packets_of part ≡ packet_list packets
part_again part packets (inl own) =
    let b = begins part own.0 own.1 in
    ap packets_of b.2 ∙ read_as_packet b.0 b.1 (type_again b.0 b.4)
    ∙ ap (λ (bytes : List ℕ). alone (whole_packet bytes)) (sym b.2) ∙ ap alone (whole_again part own.0 own.1)
    ∙ ap packet_list (sym own.2)
part_again [] packets (inr other) = ap packet_list (sym other.1)
part_again (first ∷ rest) packets (inr other) = passed_over first rest other.0 ∙ ap packet_list (sym other.1)

-- ---- the parts

-- parts were read, and their packets are after the ones before
record PartsTaken (lens : List ℕ) (packets : List PacketValue) (bytes : List ℕ) (out : List PacketValue) (rest : List ℕ) : Type 0 where
  parts : List (List ℕ)
  more : List PacketValue
  lengths : map length parts ≡ lens
  texts : PartTexts parts more
  text : bytes ≡ flat_map (λ part. part) parts ++ rest
  behind : out ≡ packets ++ more

pub texts_joined : (part : List ℕ) (parts : List (List ℕ)) (one more : List PacketValue) → PartText part one
    → PartTexts parts more → PartTexts (part ∷ parts) (one ++ more)
texts_joined part parts one more (inl own) texts = inl (own.0, more, own.1, texts, ap (λ (ps : List PacketValue). ps ++ more) own.2)
texts_joined part parts one more (inr other) texts = inr
    (other.0, subst (PartTexts parts) (sym (ap (λ (ps : List PacketValue). ps ++ more) other.1)) texts)

part_before : (len : ℕ) (lens : List ℕ) (packets own : List PacketValue) (bytes part mid behind : List ℕ)
    (out : List PacketValue) (rest : List ℕ) → length part ≡ len → bytes ≡ part ++ mid
    → PartText part own → mid ≡ behind → PartsTaken lens (packets ++ own) behind out rest → PartsTaken (len ∷ lens) packets bytes out rest
part_before len lens packets own bytes part mid behind out rest long first text same later = record {
  parts = part ∷ later.parts;
  more = own ++ later.more;
  lengths = ap (λ (n : ℕ). n ∷ map length later.parts) long ∙ ap (λ (ls : List ℕ). len ∷ ls) later.lengths;
  texts = texts_joined part later.parts own later.more text later.texts;
  text = parts_joined part (flat_map (λ p. p) later.parts) rest first (same ∙ later.text);
  behind = later.behind ∙ append_assoc packets own later.more;
}

parts_takes : (lens : List ℕ) (packets : List PacketValue) (bytes : List ℕ) (out : List PacketValue) (rest : List ℕ)
    → parts_at lens packets bytes ≡ read out rest
    → PartsTaken lens packets bytes out rest
unfolding parts_at
parts_takes [] packets bytes out rest e = record {
  parts = [];
  more = [];
  lengths = refl;
  texts = refl;
  text = read_rest packets out bytes rest e;
  behind = sym (read_value packets out bytes rest e) ∙ sym (append-nil packets);
}
parts_takes (len ∷ lens) packets bytes out rest e =
    let t = then_ok (lift fault_of_pack (next_bytes len) bytes)
    (λ part. checked (packets_of part) >>= (λ more. parts_at lens (packets ++ more))) out rest e in
    let one = bytes_takes len bytes t.0 t.1 t.2 in
    let u = then_ok (checked (packets_of t.0) t.1) (λ more. parts_at lens (packets ++ more)) out rest t.3 in
    let own = checked_ok (packets_of t.0) t.1 u.0 u.1 u.2 in
    part_before len lens packets u.0 bytes t.0 t.1 u.1 out rest one.0 one.1 (part_takes t.0 u.0 own.0) own.1
    (parts_takes lens (packets ++ u.0) u.1 out rest u.3)

parts_again : (parts : List (List ℕ)) (packets more : List PacketValue) (rest : List ℕ) → PartTexts parts more
    → parts_at (map length parts) packets (flat_map (λ part. part) parts ++ rest) ≡ read (packets ++ more) rest
unfolding parts_at
parts_again [] packets more rest texts =
    ap (λ (ps : List PacketValue). read ps rest) (sym (append-nil packets) ∙ ap (λ (ps : List PacketValue). packets ++ ps) (sym texts))
parts_again (part ∷ parts) packets more rest (inl own) =
    let one = bytes_again part (flat_map (λ p. p) parts ++ rest) in
    let value = part_again part (own.0 ∷ []) (inl (own.0, own.2, refl)) in
    let later = parts_again parts (packets ++ own.0 ∷ []) own.1 rest own.3 in
    let all : (packets ++ own.0 ∷ []) ++ own.1 ≡ packets ++ more =
    append_assoc packets (own.0 ∷ []) own.1 ∙ ap (λ (ps : List PacketValue). packets ++ ps) (sym own.4) in
    rw (append_assoc part (flat_map (λ p. p) parts) rest, one, value) (later ∙ ap (λ (ps : List PacketValue). read ps rest) all)
parts_again (part ∷ parts) packets more rest (inr other) =
    let one = bytes_again part (flat_map (λ p. p) parts ++ rest) in
    let value = part_again part [] (inr (other.0, refl)) in
    let later = parts_again parts (packets ++ []) more rest other.1 in
    let all : (packets ++ []) ++ more ≡ packets ++ more = ap (λ (ps : List PacketValue). ps ++ more) (append-nil packets) in
    rw (append_assoc part (flat_map (λ p. p) parts) rest, one, value) (later ∙ ap (λ (ps : List PacketValue). read ps rest) all)

-- ---- compound packets

lengths_text : (parts : List (List ℕ))
    → flat_map (to_be_bytes w16) (map length parts) ≡ flat_map
    (λ part. to_be_bytes w16 (length part)) parts
lengths_text [] = refl
lengths_text (part ∷ parts) = ap (λ (bytes : List ℕ). to_be_bytes w16 (length part) ++ bytes) (lengths_text parts)

all_short : (parts : List (List ℕ)) → All (λ len. len < 2 ^ 16) (map length parts) → All (λ part. length part < 2 ^ 16) parts
all_short [] short = All-nil (λ part. length part < 2 ^ 16)
all_short (part ∷ parts) short =
    All-cons (λ p. length p < 2 ^ 16) part parts (short 0 0 (omega arith)) (all_short parts (λ k d lt. short (suc k) d (omega arith)))

count_is : (parts : List (List ℕ)) → length (map length parts) ≡ length parts
count_is [] = refl
count_is (part ∷ parts) = ap suc (count_is parts)

-- what follows the byte 7 is the rest of a compound packet
pub record CompoundTaken (bytes : List ℕ) (packets : List PacketValue) (rest : List ℕ) : Type 0 where
  pub parts : List (List ℕ)
  pub few : length parts < 256
  pub short : All (λ part. length part < 2 ^ 16) parts
  pub texts : PartTexts parts packets
  pub text : 7 ∷ bytes ≡ compound_bytes parts ++ rest

pub compound_takes : (bytes : List ℕ) (packets : List PacketValue) (rest : List ℕ) → AreBytes bytes
    → compound_at bytes ≡ read packets rest → CompoundTaken bytes packets rest
unfolding compound_at
compound_takes [] packets rest are e = absurd cc
compound_takes (count ∷ bytes) packets rest are e =
    let t = then_ok (lengths_at count bytes) (λ lens. parts_at lens []) packets rest e in
    let lens = lengths_takes count bytes t.0 t.1 (λ k d lt. are (suc k) d (omega arith)) t.2 in
    let p = parts_takes t.0 [] t.1 packets rest t.3 in
    let number = count_is p.parts in
    let as_lens = ap (λ (ls : List ℕ). length ls) p.lengths in
    let lens_count = lens.0 in
    let many : count ≡ length p.parts = omega arith in
    let small = are 0 count (omega arith) in
    let digits : flat_map (to_be_bytes w16) t.0 ≡ flat_map (λ part. to_be_bytes w16 (length part)) p.parts =
    ap (flat_map (to_be_bytes w16)) (sym p.lengths) ∙ lengths_text p.parts in
    let behind : bytes ≡ flat_map (λ part. to_be_bytes w16 (length part)) p.parts ++ t.1 = lens.1 ∙ ap
    (λ (ls : List ℕ). ls ++ t.1) digits in
    record {
      parts = p.parts;
      few = subst (λ n. n < 256) many small;
      short = all_short p.parts (subst (All (λ len. len < 2 ^ 16)) (sym p.lengths) lens.2);
      texts = subst (PartTexts p.parts) (sym p.behind) p.texts;
      text = ap (λ (n : ℕ). 7 ∷ n ∷ bytes) many
          ∙ ap (λ (bs : List ℕ). 7 ∷ length p.parts ∷ bs)
          (parts_joined (flat_map (λ part. to_be_bytes w16 (length part)) p.parts) (flat_map (λ part. part) p.parts) rest behind p.text);
    }

pub compound_again : (parts : List (List ℕ)) (packets : List PacketValue) (rest : List ℕ)
    → All (λ part. length part < 2 ^ 16) parts → PartTexts parts packets
    → compound_at (length parts ∷ (flat_map
    (λ part. to_be_bytes w16 (length part)) parts ++ (flat_map (λ part. part) parts ++ rest)))
    ≡ read packets rest
unfolding compound_at
compound_again parts packets rest short texts =
    rw (lengths_again parts (flat_map (λ part. part) parts ++ rest) short) (parts_again parts [] packets rest texts)

-- ---- datagrams

pub datagram_takes : (b : List ℕ) (packets : List PacketValue) → AreBytes b
    → whole_datagram b ≡ packet_list packets → DatagramText b packets
datagram_takes [] packets are e = absurd cc
datagram_takes (first ∷ bytes) packets are e =
    split (eqb first 7) P _ _
    (λ t own. let c = compound_takes bytes packets []
    (λ k d lt. are (suc k) d (omega arith)) (nothing_after_ok (compound_at bytes) packets own) in
    compound c.parts c.few c.short (ap (λ (n : ℕ). n ∷ bytes) (eqb-true _ _ t) ∙ c.text ∙ append-nil (compound_bytes c.parts)) c.texts)
    (λ t own. let p = alone_ok (whole_packet (first ∷ bytes)) packets own in packet p.0 (whole_takes (first ∷ bytes) p.0 p.1) p.2) e
  where
    P : Result (List PacketValue) WireFault → Type 0
    P r = r ≡ packet_list packets → DatagramText (first ∷ bytes) packets

-- a datagram that does not start with 7
one_packet : (first : ℕ) (bytes : List ℕ) → eqb first 7 ≡ false → whole_datagram (first ∷ bytes) ≡ alone (whole_packet (first ∷ bytes))
one_packet first bytes t = rw t refl

pub datagram_again : (b : List ℕ) (packets : List PacketValue) → DatagramText b packets → whole_datagram b ≡ packet_list packets
datagram_again b packets (packet p text is) =
    let t = begins b p text in
    ap whole_datagram t.2 ∙ one_packet t.0 t.1 t.3 ∙ ap (λ (bytes : List ℕ). alone (whole_packet bytes)) (sym t.2)
    ∙ ap alone (whole_again b p text) ∙ ap packet_list (sym is)
datagram_again b packets (compound parts few short is texts) =
    let again = compound_again parts packets [] short texts in
    rw is (ap nothing_after (rw (append-nil (flat_map (λ part. part) parts)) at again))

pub datagram_lacks : (b : List ℕ) (error : WireFault) → whole_datagram b ≡ failed (List PacketValue) error →
    (packets : List PacketValue) → DatagramText b packets → ⊥
datagram_lacks b error e packets text = let again = datagram_again b packets text in cc
