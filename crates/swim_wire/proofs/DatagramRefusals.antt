-- Why bytes are not a datagram.
use Rattle.std.proofs.Common.{◌≡◌, ◌≢◌, ◌⊎◌, inl, inr, ⊎_elim, ℕ, zero, suc, false, eqb, List, [], ◌∷◌, ◌++◌, length}
use Rattle.std.proofs.Common.{map, flat_map, Result, Ok, Err, refl, sym, ap, subst, ◌∙◌, eqb-true, arith}
use Rattle.std.proofs.lemmas.Bool.Decides.{nat_tests}
use Rattle.std.specs.Int.{w16, to_be_bytes, from_be_bytes}
use Rattle.swim_claim.specs.Bytes.{AreBytes}
use Rattle.swim_pack.specs.Composing.{◌>>=◌, gives, lift}
use Rattle.swim_pack.specs.Reading.{next_bytes}
use Rattle.swim_wire.specs.declared.fault.WireFault.{WireFault}
use Rattle.swim_wire.specs.declared.fault.WireFault.TheVariants.{Ended, Memory, NameEmpty, BadAddress, BadVersions}
use Rattle.swim_wire.specs.declared.fault.WireFault.TheVariants.{WrongType, BadState, TooManyNodes, UserTooLong}
use Rattle.swim_wire.specs.declared.fault.WireFault.TheVariants.{Trailing}
use Rattle.swim_wire.specs.Checks.{ReasonForWhole}
use Rattle.swim_wire.specs.Datagrams.{length_at, lengths_at, alone, is_packet_type, packets_of, parts_at, compound_at}
use Rattle.swim_wire.specs.Datagrams.{whole_datagram, HasBadPart, ReasonForDatagram}
use Rattle.swim_wire.specs.Fault.{fault_of_pack}
use Rattle.swim_wire.specs.Packet.{PacketValue}
use Rattle.swim_wire.specs.Reading.{checked, nothing_after, whole_packet}
use Rattle.swim_wire.specs.Texts.{IsPacketPart, PartTexts, compound_bytes}
use Rattle.swim_wire.specs.Texts.DatagramText.{packet, compound}
use Rattle.swim_wire.proofs.Readings.{refused, then_err, parts_joined}
use Rattle.swim_wire.proofs.MapFaults.{IsMapFault, explained_by_map, pack_fault, lift_fault}
use Rattle.swim_wire.proofs.Checking.{failed, split, nothing_after_err, checked_ok, checked_err}
use Rattle.swim_wire.proofs.PacketTexts.{whole_refusal}
use Rattle.swim_wire.proofs.DatagramTexts.{bytes_takes, part_takes, PartText, texts_joined, lengths_takes, type_is, compound_takes}

-- ---- a part

alone_err : (r : Result PacketValue WireFault) (error : WireFault)
    → alone r ≡ failed (List PacketValue) error → r ≡ failed PacketValue error
alone_err (Ok p) error e = absurd cc
alone_err (Err other) error e = cc

part_refusal : (part : List ℕ) (error : WireFault) → error ≢ Memory
    → packets_of part ≡ failed (List PacketValue) error → IsPacketPart part × ReasonForWhole error part
part_refusal [] error other e = absurd cc
part_refusal (first ∷ rest) error other e =
    split (is_packet_type first)
    (λ r. r ≡ failed (List PacketValue) error → IsPacketPart (first ∷ rest) × ReasonForWhole error (first ∷ rest))
    (alone (whole_packet (first ∷ rest))) (Ok [])
    (λ t own. (
      type_is first t,
      whole_refusal (first ∷ rest) error other
          (alone_err (whole_packet (first ∷ rest)) error own),
    )) (λ t none. absurd cc) e

-- ---- the parts

-- some parts, and then one that is refused
record PartRefused (lens : List ℕ) (bytes : List ℕ) (error : WireFault) : Type 0 where
  before : List (List ℕ)
  packets : List PacketValue
  part : List ℕ
  later : List ℕ
  rest : List ℕ
  lengths : lens ≡ map length before ++ length part ∷ later
  text : bytes ≡ flat_map (λ p. p) before ++ (part ++ rest)
  right : PartTexts before packets
  wrong : IsPacketPart part × ReasonForWhole error part

one_more : (len : ℕ) (lens : List ℕ) (bytes mid part : List ℕ) (own : List PacketValue) (error : WireFault)
    → length part ≡ len → bytes ≡ part ++ mid → PartText part own
    → PartRefused lens mid error → PartRefused (len ∷ lens) bytes error
one_more len lens bytes mid part own error long parts text r = record {
  before = part ∷ r.before;
  packets = own ++ r.packets;
  part = r.part;
  later = r.later;
  rest = r.rest;
  lengths = ap (λ (ls : List ℕ). len ∷ ls) r.lengths ∙ ap (λ (n : ℕ). n ∷ map length r.before ++ length r.part ∷ r.later) (sym long);
  text = parts_joined part (flat_map (λ p. p) r.before) (r.part ++ r.rest) parts r.text;
  right = texts_joined part r.before own r.packets text r.right;
  wrong = r.wrong;
}

parts_refusal : (lens : List ℕ) (packets : List PacketValue) (bytes : List ℕ) (error : WireFault) → error ≢ Memory
    → parts_at lens packets bytes ≡ refused (List PacketValue) error
    → IsMapFault error ⊎ PartRefused lens bytes error
unfolding parts_at
parts_refusal [] packets bytes error other e = absurd cc
parts_refusal (len ∷ lens) packets bytes error other e =
    then_err (lift fault_of_pack (next_bytes len) bytes)
    (λ part. checked (packets_of part) >>= (λ more. parts_at lens (packets ++ more))) error e Q
    (λ short. inl (lift_fault fault_of_pack (next_bytes len bytes) error pack_fault short))
    (λ part mid ok next. let one = bytes_takes len bytes part mid ok in
    then_err (checked (packets_of part) mid) (λ more. parts_at lens (packets ++ more)) error next Q
    (λ wrong. inr (first part mid one.0 one.1 (part_refusal part error other (checked_err (packets_of part) mid error wrong))))
    (λ own behind passes later. let own_is = checked_ok (packets_of part) mid own behind passes in
    ⊎_elim (λ (m : IsMapFault error). inl m)
    (λ (r : PartRefused lens behind error). inr
    (one_more len lens bytes behind part own error one.0 (one.1 ∙ ap (λ (bs : List ℕ). part ++ bs) own_is.1)
    (part_takes part own own_is.0) r))
    (parts_refusal lens (packets ++ own) behind error other later)))
  where
    Q : Type 0
    Q = IsMapFault error ⊎ PartRefused (len ∷ lens) bytes error

    first : (part mid : List ℕ) → length part ≡ len → bytes ≡ part ++ mid
        → IsPacketPart part × ReasonForWhole error part → PartRefused (len ∷ lens) bytes error
    first part mid long parts wrong = record {
      before = [];
      packets = [];
      part = part;
      later = lens;
      rest = mid;
      lengths = ap (λ (n : ℕ). n ∷ lens) (sym long);
      text = parts;
      right = refl;
      wrong = wrong;
    }

-- ---- compound packets

length_fault : (bytes : List ℕ) (error : WireFault) → length_at bytes ≡ refused ℕ error → IsMapFault error
unfolding length_at
length_fault bytes error e = then_err (lift fault_of_pack (next_bytes 2) bytes)
    (λ two. gives (from_be_bytes w16 two)) error e (IsMapFault error)
    (λ short. lift_fault fault_of_pack (next_bytes 2 bytes) error pack_fault short) (λ two mid ok other. absurd cc)

lengths_fault : (n : ℕ) (bytes : List ℕ) (error : WireFault) → lengths_at n bytes ≡ refused (List ℕ) error → IsMapFault error
unfolding lengths_at
lengths_fault zero bytes error e = absurd cc
lengths_fault (suc n) bytes error e = then_err (length_at bytes)
    (λ len. lengths_at n >>= (λ lens. gives (len ∷ lens))) error e (IsMapFault error)
    (λ short. length_fault bytes error short)
    (λ len mid ok next. then_err (lengths_at n mid) (λ lens. gives (len ∷ lens)) error next (IsMapFault error)
    (λ short. lengths_fault n mid error short) (λ lens rest ok other. absurd cc))

compound_refusal : (bytes : List ℕ) (error : WireFault) → error ≢ Memory → AreBytes bytes → compound_at bytes ≡ refused
    (List PacketValue) error → IsMapFault error ⊎ HasBadPart error (7 ∷ bytes)
unfolding compound_at
compound_refusal [] error other are e = let is : Ended ≡ error = cc in inl (subst IsMapFault is tt)
compound_refusal (count ∷ bytes) error other are e =
    then_err (lengths_at count bytes) (λ lens. parts_at lens []) error e Q
    (λ short. inl (lengths_fault count bytes error short))
    (λ lens mid ok parts. let l = lengths_takes count bytes lens mid (λ k d lt. are (suc k) d (omega arith)) ok in
    ⊎_elim (λ (m : IsMapFault error). inl m)
    (λ (r : PartRefused lens mid error). inr (bad lens mid l.0 l.1 r))
    (parts_refusal lens [] mid error other parts))
  where
    Q : Type 0
    Q = IsMapFault error ⊎ HasBadPart error (7 ∷ count ∷ bytes)

    bad : (lens mid : List ℕ) → length lens ≡ count → bytes ≡ flat_map (to_be_bytes w16) lens ++ mid
        → PartRefused lens mid error → HasBadPart error (7 ∷ count ∷ bytes)
    bad lens mid many digits r = record {
      before = r.before;
      packets = r.packets;
      part = r.part;
      later = r.later;
      lens = lens;
      rest = r.rest;
      lengths = r.lengths;
      text =
          ap (λ (n : ℕ). 7 ∷ n ∷ bytes) (sym many)
          ∙ ap (λ (bs : List ℕ). 7 ∷ length lens ∷ bs) (digits ∙ ap (λ (bs : List ℕ). flat_map (to_be_bytes w16) lens ++ bs) r.text);
      right = r.right;
      is_packet = r.wrong.0;
      wrong = r.wrong.1;
    }

-- ---- datagrams

-- a part that is a packet by its first byte does not have a wrong type
no_wrong_type : (found : ℕ) (part : List ℕ) → IsPacketPart part → ¬ ReasonForWhole (WrongType found) part
no_wrong_type found [] type h = absurd type
no_wrong_type found (first ∷ rest) type h =
    let first_is : first ≡ found = cc (h.0.1) in
    let other = h.1 in
    grind arith

by_part : (error : WireFault) (bytes : List ℕ) → error ≢ Memory → HasBadPart error bytes → ReasonForDatagram error bytes
by_part NameEmpty bytes other h = inr h
by_part BadAddress bytes other h = inr h
by_part BadVersions bytes other h = inr h
by_part (WrongType found) bytes other h = absurd (no_wrong_type found h.part h.is_packet h.wrong)
by_part (BadState found) bytes other h = absurd h.wrong
by_part TooManyNodes bytes other h = absurd h.wrong
by_part UserTooLong bytes other h = absurd h.wrong
by_part Trailing bytes other h = inr h
by_part Memory bytes other h = absurd (other refl)
by_part error bytes other h = tt

by_packet : (error : WireFault) (first : ℕ) (bytes : List ℕ) → error ≢ Memory → eqb first 7 ≡ false → ReasonForWhole error (first ∷ bytes)
    → ReasonForDatagram error (first ∷ bytes)
by_packet NameEmpty first bytes other t h = inl h
by_packet BadAddress first bytes other t h = inl h
by_packet BadVersions first bytes other t h = inl h
by_packet (WrongType found) first bytes other t h =
    let first_is : first ≡ found = cc (h.0.1) in
    (h.0, h.1, λ seven. grind (arith, nat_tests))
by_packet (BadState found) first bytes other t h = absurd h
by_packet TooManyNodes first bytes other t h = absurd h
by_packet UserTooLong first bytes other t h = absurd h
by_packet Trailing first bytes other t h = inl (h.0, h.1 ∷ [], h.2, h.3, packet h.1 h.4 refl, h.5)
by_packet Memory first bytes other t h = absurd (other refl)
by_packet error first bytes other t h = tt

pub datagram_refusal : (b : List ℕ) (error : WireFault) → error ≢ Memory → AreBytes b
    → whole_datagram b ≡ failed (List PacketValue) error → ReasonForDatagram error b
datagram_refusal [] error memory are e = let is : Ended ≡ error = cc in subst (λ f. ReasonForDatagram f []) is tt
datagram_refusal (first ∷ bytes) error memory are e =
    split (eqb first 7) P _ _ (λ t. explained (eqb-true _ _ t))
    (λ t own. by_packet error first bytes memory t
    (whole_refusal (first ∷ bytes) error memory
    (alone_err (whole_packet (first ∷ bytes)) error own))) e
  where
    P : Result (List PacketValue) WireFault → Type 0
    P r = r ≡ failed (List PacketValue) error → ReasonForDatagram error (first ∷ bytes)

    tail : AreBytes bytes
    tail k d lt = are (suc k) d (omega arith)

    explained : first ≡ 7 → P (nothing_after (compound_at bytes))
    explained seven fails =
        nothing_after_err (compound_at bytes) error fails (ReasonForDatagram error (first ∷ bytes))
        (λ refusal. ⊎_elim (λ (m : IsMapFault error). (explained_by_map error (first ∷ bytes) memory m).3)
        (λ (h : HasBadPart error (7 ∷ bytes)). by_part error (first ∷ bytes) memory
        (subst (λ n. HasBadPart error (n ∷ bytes)) (sym seven) h))
        (compound_refusal bytes error memory tail refusal))
        (λ ps byte rest ok is. let c = compound_takes bytes ps (byte ∷ rest) tail ok in
        subst (λ f. ReasonForDatagram f (first ∷ bytes)) is
        (inl (
          compound_bytes c.parts,
          ps,
          byte,
          rest,
          compound c.parts c.few c.short refl c.texts,
          ap (λ (n : ℕ). n ∷ bytes) seven ∙ c.text,
        )))
