-- The parts of a compound packet, read one after the other.
use Rattle.std.proofs.Common.{◌≡◌, ◌⊎◌, inl, inr, eqb, ℕ, zero, suc, ◌*◌, ◌<◌, ◌≤◌, List, [], ◌∷◌, ◌++◌, length, take}
use Rattle.std.proofs.Common.{drop, Result, Ok, Err, refl, sym, ap, ◌∙◌, arith, ltb, true, false, length-take}
use Rattle.std.proofs.Common.{take-append-drop}
use Rattle.std.specs.Prelude.{⊤}
use Rattle.std.proofs.lemmas.Bool.{lt-ltb, le-ltb}
use Rattle.std.specs.Int.{w16, from_be_bytes}
use Rattle.swim_pack.specs.Composing.{then_read, lift, gives}
use Rattle.swim_pack.specs.Reading.{next_bytes}
use Rattle.swim_wire.specs.declared.fault.WireFault.{WireFault}
use Rattle.swim_wire.specs.declared.fault.WireFault.TheVariants.{Ended, Memory, Trailing}
use Rattle.swim_wire.specs.Datagrams.{length_at, lengths_at, alone, packets_of, parts_at, compound_at, whole_datagram}
use Rattle.swim_wire.specs.Fault.{fault_of_pack}
use Rattle.swim_wire.specs.Packet.{PacketValue}
use Rattle.swim_wire.specs.Parts.{lengths_in, GrowsBy}
use Rattle.swim_wire.specs.Reading.{nothing_after, packet_at, whole_packet}
use Rattle.swim_wire.proofs.Readings.{read, refused}
use Rattle.swim_wire.proofs.Checking.{failed}
use Rattle.swim_wire.proofs.DatagramTexts.{bytes_again, packet_list}

bytes_there : (n : ℕ) (bytes : List ℕ) → n ≤ length bytes → lift fault_of_pack (next_bytes n) bytes ≡ read (take n bytes) (drop n bytes)
bytes_there n bytes le = let t : ltb (length bytes) n ≡ false = le-ltb _ _ le in rw t refl

bytes_short : (n : ℕ) (bytes : List ℕ) → length bytes < n → lift fault_of_pack (next_bytes n) bytes ≡ refused (List ℕ) Ended
bytes_short n bytes lt = let t : ltb (length bytes) n ≡ true = lt-ltb _ _ lt in rw t refl

-- ---- the lengths

length_two : (high low : ℕ) (rest : List ℕ) → length_at (high ∷ low ∷ rest) ≡ read (from_be_bytes w16 (high ∷ low ∷ [])) rest
unfolding length_at
length_two high low rest = ap (then_read (λ bytes. gives (from_be_bytes w16 bytes))) (bytes_again (high ∷ low ∷ []) rest)

length_short : (bytes : List ℕ) → length bytes < 2 → length_at bytes ≡ refused ℕ Ended
unfolding length_at
length_short bytes lt = ap (then_read (λ bytes. gives (from_be_bytes w16 bytes))) (bytes_short 2 bytes lt)

lengths_front : (n : ℕ) (front back : List ℕ) → length front ≡ 2 * n → lengths_at n (front ++ back) ≡ read (lengths_in front) back
unfolding lengths_at
lengths_front zero [] back e = refl
lengths_front zero (high ∷ front) back e = absurd (omega arith)
lengths_front (suc n) [] back e = absurd (omega arith)
lengths_front (suc n) (high ∷ []) back e = absurd (omega arith)
lengths_front (suc n) (high ∷ low ∷ front) back e =
    let one = length_two high low (front ++ back) in
    let more = lengths_front n front back (omega arith) in
    rw (one, more) refl

lengths_short : (n : ℕ) (bytes : List ℕ) → length bytes < 2 * n → lengths_at n bytes ≡ refused (List ℕ) Ended
unfolding lengths_at
lengths_short zero bytes lt = absurd (omega arith)
lengths_short (suc n) [] lt = let one = length_short [] (omega arith) in rw one refl
lengths_short (suc n) (high ∷ []) lt = let one = length_short (high ∷ []) (omega arith) in rw one refl
lengths_short (suc n) (high ∷ low ∷ bytes) lt =
    let one = length_two high low bytes in
    let more = lengths_short n bytes (omega arith) in
    rw (one, more) refl

-- the lengths are there
pub compound_lengths : (n : ℕ) (bytes : List ℕ) → 2 * n ≤ length bytes → compound_at (n ∷ bytes) ≡ parts_at
    (lengths_in (take (2 * n) bytes)) [] (drop (2 * n) bytes)
unfolding compound_at
compound_lengths n bytes le =
    let long : length (take (2 * n) bytes) ≡ 2 * n = omega (arith, length-take (2 * n) bytes) in
    let lens : lengths_at n bytes ≡ read (lengths_in (take (2 * n) bytes)) (drop (2 * n) bytes) =
    ap (lengths_at n) (sym (take-append-drop (2 * n) bytes)) ∙ lengths_front n (take (2 * n) bytes) (drop (2 * n) bytes) long in
    ap (then_read (λ lens. parts_at lens [])) lens

-- the lengths are cut off
pub compound_cut : (n : ℕ) (bytes : List ℕ) → length bytes < 2 * n → compound_at (n ∷ bytes) ≡ refused (List PacketValue) Ended
unfolding compound_at
compound_cut n bytes lt = ap (then_read (λ lens. parts_at lens [])) (lengths_short n bytes lt)

pub compound_empty : compound_at [] ≡ refused (List PacketValue) Ended
unfolding compound_at
compound_empty = refl

-- ---- the parts

first_length : (bytes : List ℕ) → 2 ≤ length bytes → lengths_in bytes ≡ from_be_bytes w16 (take 2 bytes) ∷ lengths_in (drop 2 bytes)
first_length [] le = absurd (omega arith)
first_length (high ∷ []) le = absurd (omega arith)
first_length (high ∷ low ∷ bytes) le = refl

pub no_length : (bytes : List ℕ) → length bytes < 2 → lengths_in bytes ≡ []
no_length [] lt = refl
no_length (high ∷ []) lt = refl
no_length (high ∷ low ∷ bytes) lt = absurd (omega arith)

part_read : (lens : List ℕ) (len : ℕ) (packets more : List PacketValue) (rest : List ℕ) → len ≤ length rest
    → packets_of (take len rest) ≡ packet_list more
    → parts_at (len ∷ lens) packets rest ≡ parts_at lens (packets ++ more) (drop len rest)
unfolding parts_at
part_read lens len packets more rest le e = let one = bytes_there len rest le in rw (one, e) refl

part_wrong : (lens : List ℕ) (len : ℕ) (packets : List PacketValue) (rest : List ℕ) (error : WireFault) → len ≤ length rest
    → packets_of (take len rest) ≡ failed (List PacketValue) error
    → parts_at (len ∷ lens) packets rest ≡ refused (List PacketValue) error
unfolding parts_at
part_wrong lens len packets rest error le e = let one = bytes_there len rest le in rw (one, e) refl

part_cut : (lens : List ℕ) (len : ℕ) (packets : List PacketValue) (rest : List ℕ) → length rest < len → parts_at
    (len ∷ lens) packets rest ≡ refused (List PacketValue) Ended
unfolding parts_at
part_cut lens len packets rest lt = let one = bytes_short len rest lt in rw one refl

pub no_part : (packets : List PacketValue) (rest : List ℕ) → parts_at [] packets rest ≡ read packets rest
unfolding parts_at
no_part packets rest = refl

pub as_length : (bytes two : List ℕ) (len : ℕ) → 2 ≤ length bytes → two ≡ take 2 bytes → len ≡ from_be_bytes w16 two
    → lengths_in bytes ≡ len ∷ lengths_in (drop 2 bytes)
as_length bytes two len le is e = first_length bytes le ∙ ap
    (λ (n : ℕ). n ∷ lengths_in (drop 2 bytes)) (ap (from_be_bytes w16) (sym is) ∙ sym e)

-- a part was read
pub parts_go_on : (bytes two : List ℕ) (len : ℕ) (packets more : List PacketValue) (rest : List ℕ) → 2 ≤ length bytes
    → two ≡ take 2 bytes → len ≡ from_be_bytes w16 two
    → len ≤ length rest → packets_of (take len rest) ≡ packet_list more
    → parts_at (lengths_in bytes) packets rest ≡ parts_at (lengths_in (drop 2 bytes)) (packets ++ more) (drop len rest)
parts_go_on bytes two len packets more rest le is e fits own =
    ap (λ (ls : List ℕ). parts_at ls packets rest) (as_length bytes two len le is e)
    ∙ part_read (lengths_in (drop 2 bytes)) len packets more rest fits own

pub parts_wrong : (bytes two : List ℕ) (len : ℕ) (packets : List PacketValue) (rest : List ℕ) (error : WireFault)
    → 2 ≤ length bytes → two ≡ take 2 bytes → len ≡ from_be_bytes w16 two
    → len ≤ length rest → packets_of (take len rest) ≡ failed (List PacketValue) error
    → parts_at (lengths_in bytes) packets rest ≡ refused (List PacketValue) error
parts_wrong bytes two len packets rest error le is e fits own =
    ap (λ (ls : List ℕ). parts_at ls packets rest) (as_length bytes two len le is e)
    ∙ part_wrong (lengths_in (drop 2 bytes)) len packets rest error fits own

pub parts_cut : (bytes two : List ℕ) (len : ℕ) (packets : List PacketValue) (rest : List ℕ) → 2 ≤ length bytes
    → two ≡ take 2 bytes → len ≡ from_be_bytes w16 two
    → length rest < len → parts_at (lengths_in bytes) packets rest ≡ refused (List PacketValue) Ended
parts_cut bytes two len packets rest le is e lt =
    ap (λ (ls : List ℕ). parts_at ls packets rest) (as_length bytes two len le is e)
    ∙ part_cut (lengths_in (drop 2 bytes)) len packets rest lt

-- the lengths are used up
pub parts_end : (bytes : List ℕ) (packets : List PacketValue) (rest : List ℕ) → length bytes < 2
    → parts_at (lengths_in bytes) packets rest ≡ read packets rest
parts_end bytes packets rest lt = ap (λ (ls : List ℕ). parts_at ls packets rest) (no_length bytes lt) ∙ no_part packets rest

-- ---- what was added

pub added : (wanted : Result (List PacketValue) WireFault) (old new : List PacketValue) (done : ⊤) → GrowsBy wanted old new
    (Ok done) → (more : List PacketValue) × (wanted ≡ packet_list more) × (new ≡ old ++ more)
added (Ok more) old new done h = (more, refl, h)
added (Err error) old new done h = absurd h

pub not_added : (wanted : Result (List PacketValue) WireFault) (old new : List PacketValue)
    (error : WireFault) → GrowsBy wanted old new (Err error)
    → (wanted ≡ failed (List PacketValue) error) ⊎ (error ≡ Memory)
not_added (Ok more) old new error h = h
not_added (Err other) old new error h = h

-- ---- from the first part to here

pub next_part : (start : Result (List PacketValue × List ℕ) WireFault) (bytes two later : List ℕ) (len : ℕ)
    (packets new : List PacketValue) (rest part behind : List ℕ) (done : ⊤)
    → start ≡ parts_at (lengths_in bytes) packets rest → 2 ≤ length bytes → two ≡ take 2 bytes
    → later ≡ drop 2 bytes → len ≡ from_be_bytes w16 two
    → len ≤ length rest → part ≡ take len rest → behind ≡ drop len rest → GrowsBy (packets_of part) packets new (Ok done)
    → start ≡ parts_at (lengths_in later) new behind
next_part start bytes two later len packets new rest part behind done before le is later_is e fits part_is behind_is grows =
    let a = added (packets_of part) packets new done grows in
    let step = parts_go_on bytes two len packets a.0 rest le is e fits (ap packets_of (sym part_is) ∙ a.1) in
    before ∙ step ∙ ap (λ (ps : List PacketValue). parts_at (lengths_in (drop 2 bytes)) ps (drop len rest)) (sym a.2)
    ∙ ap (λ (bs : List ℕ). parts_at (lengths_in bs) new (drop len rest)) (sym later_is)
    ∙ ap (parts_at (lengths_in later) new) (sym behind_is)

pub wrong_part : (start : Result (List PacketValue × List ℕ) WireFault) (bytes two : List ℕ) (len : ℕ)
    (packets new : List PacketValue) (rest part : List ℕ) (error : WireFault)
    → start ≡ parts_at (lengths_in bytes) packets rest → 2 ≤ length bytes → two ≡ take 2 bytes → len ≡ from_be_bytes w16 two
    → len ≤ length rest → part ≡ take len rest → GrowsBy (packets_of part) packets new (Err error)
    → (nothing_after start ≡ failed (List PacketValue) error) ⊎ (error ≡ Memory)
wrong_part start bytes two len packets new rest part error before le is e fits part_is grows = by
    (not_added (packets_of part) packets new error grows)
  where
    by : (packets_of part ≡ failed (List PacketValue) error) ⊎ (error ≡ Memory)
        → (nothing_after start ≡ failed (List PacketValue) error) ⊎ (error ≡ Memory)
    by (inl own) = inl (ap nothing_after
        (before ∙ parts_wrong bytes two len packets rest error le is e fits
        (ap packets_of (sym part_is) ∙ own)))
    by (inr memory) = inr memory

pub all_read : (start : Result (List PacketValue × List ℕ) WireFault) (bytes : List ℕ) (packets : List PacketValue) (rest : List ℕ)
    → start ≡ parts_at (lengths_in bytes) packets rest → length bytes < 2 → length rest ≡ 0 → nothing_after start ≡ packet_list packets
all_read start bytes packets [] before lt none = ap nothing_after (before ∙ parts_end bytes packets [] lt)
all_read start bytes packets (byte ∷ rest) before lt none = absurd (omega arith)

pub left_over : (start : Result (List PacketValue × List ℕ) WireFault) (bytes : List ℕ) (packets : List PacketValue) (rest : List ℕ)
    → start ≡ parts_at (lengths_in bytes) packets rest → length bytes < 2 → 0 < length rest
    → nothing_after start ≡ failed (List PacketValue) Trailing
left_over start bytes packets [] before lt some = absurd (omega arith)
left_over start bytes packets (byte ∷ rest) before lt some = ap nothing_after (before ∙ parts_end bytes packets (byte ∷ rest) lt)

-- ---- the whole

pub compound_none : (body : List ℕ) → length body ≡ 0 → nothing_after (compound_at body) ≡ failed (List PacketValue) Ended
compound_none [] none = ap nothing_after compound_empty
compound_none (byte ∷ body) none = absurd (omega arith)

pub lengths_cut : (body rest : List ℕ) (count n : ℕ) → body ≡ count ∷ rest → n ≡ count → length rest < 2 * n → nothing_after
    (compound_at body) ≡ failed (List PacketValue) Ended
lengths_cut body rest count n is same lt = ap nothing_after
    (ap compound_at (is ∙ ap (λ (k : ℕ). k ∷ rest) (sym same)) ∙ compound_cut n rest lt)

pub compound_parts : (body rest lens parts : List ℕ) (count n : ℕ) → body ≡ count ∷ rest → n ≡ count → 2 * n ≤ length rest
    → lens ≡ take (2 * n) rest → parts ≡ drop (2 * n) rest
    → compound_at body ≡ parts_at (lengths_in lens) [] parts
compound_parts body rest lens parts count n is same le lens_is parts_is =
    ap compound_at (is ∙ ap (λ (k : ℕ). k ∷ rest) (sym same)) ∙ compound_lengths n rest le
    ∙ ap (λ (bs : List ℕ). parts_at (lengths_in bs) [] (drop (2 * n) rest)) (sym lens_is)
    ∙ ap (parts_at (lengths_in lens) []) (sym parts_is)

pub no_bytes : (bytes : List ℕ) → length bytes ≡ 0 → whole_datagram bytes ≡ alone (whole_packet bytes)
unfolding packet_at
no_bytes [] none = refl
no_bytes (byte ∷ bytes) none = absurd (omega arith)

pub no_compound : (bytes : List ℕ) (first : ℕ) (rest : List ℕ) → bytes ≡ first ∷ rest → eqb first 7 ≡ false
    → whole_datagram bytes ≡ alone (whole_packet bytes)
no_compound bytes first rest is t = ap whole_datagram is ∙ one first rest t ∙ ap (λ (bs : List ℕ). alone (whole_packet bs)) (sym is)
  where
    one : (first : ℕ) (rest : List ℕ) → eqb first 7 ≡ false → whole_datagram (first ∷ rest) ≡ alone (whole_packet (first ∷ rest))
    one first rest t = rw t refl
