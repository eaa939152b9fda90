-- The parts of a block of pcapng are read back.
use Rattle.std.proofs.Common.{◌≡◌, ℕ, ◌+◌, ◌-◌, ◌%◌, ◌^◌, ◌<◌, ◌≤◌, true, false, eqb, ltb, nat_lt, List, [], ◌++◌}
use Rattle.std.proofs.Common.{length, eq-eqb, refl, ◌∙◌, append_assoc, length-append, arith}
use Rattle.std.specs.Prelude.{Some, Ok, slice_get}
use Rattle.std.proofs.lemmas.Bool.{le-ltb, lt-ltb}
use Rattle.capture.specs.declared.interface.Interface.{Interface}
use Rattle.capture.specs.declared.order.Order.{Order}
use Rattle.capture.specs.declared.order.Order.TheVariants.{Big, Little}
use Rattle.capture.specs.declared.record.Record.{Record}
use Rattle.capture.specs.Clock.{clock_of}
use Rattle.capture.specs.PcapText.{number_bytes}
use Rattle.capture.specs.Pcapng.{BlockText as blocks, SectionText, room_in, closed, section_at, interface_at, packet_at, timed_packet}
use Rattle.capture.specs.Pcapng.{simple_packet, other_at, next_other, snapped}
use Rattle.capture.specs.PcapngText.{section_body, interface_body}
use Rattle.capture.specs.PcapngText.{simple_body, timed_record, untimed_record, IsBlock as is}
use Rattle.capture.specs.Taking.{order_of, field, skipped}
use Rattle.capture.proofs.NumberBytes.{number_back, number_len}
use Rattle.capture.proofs.Parts.{next_part-whole}
use Rattle.capture.proofs.PcapText.{captured_whole}

-- a number alone
pub alone : (order : Order) (x : ℕ) → x < 2 ^ 32 → field order 0 4 (number_bytes order 4 x) ≡ x
alone Big x low = number_back Big 4 x [] low
alone Little x low = number_back Little 4 x [] low

-- the room in a block
pub room_is : (fields left total : ℕ) (bytes : List ℕ) → total ≡ 12 + (fields + left) → total % 4 ≡ 0
    → room_in fields total bytes ≡ Ok (left, bytes)
room_is fields left total bytes is even =
    let e : eqb (total % 4) 0 ≡ true = eq-eqb _ _ even in
    let f : ltb total (fields + 12) ≡ false = le-ltb _ _ (omega (arith, is)) in
    let g : total - (fields + 12) ≡ left = omega (arith, is) in
    rw (e, f, g) refl

-- the end of a block
pub closed_back : (order : Order) (total : ℕ) (gone more : List ℕ) → total < 2 ^ 32
    → closed order (length gone) total (gone ++ (number_bytes order 4 total ++ more)) ≡ Ok (tt, more)
unfolding closed skipped
closed_back order total gone more low =
    let e : eqb total total ≡ true = eq-eqb total total refl in
    rw (
      next_part-whole (length gone) gone (number_bytes order 4 total ++ more) refl,
      next_part-whole 4 (number_bytes order 4 total) more (number_len order 4 total),
      alone order total low,
      e,
    ) refl

-- ---- a section header

abbrev pub section_front : Order → ℕ → ℕ → List ℕ
section_front order minor size = number_bytes order 2 1 ++ number_bytes order 2 minor ++ number_bytes order 8 size

pub section_apart : (order : Order) (minor size : ℕ) (options behind : List ℕ)
    → section_body order minor size options ++ behind
    ≡ number_bytes order 4 0x1a2b3c4d ++ (section_front order minor size ++ (options ++ behind))
section_apart Big minor size options behind = refl
section_apart Little minor size options behind = refl

pub section_len : (order : Order) (minor size : ℕ) (options : List ℕ) → length (section_body order minor size options) ≡ 16 + length options
section_len Big minor size options = omega arith
section_len Little minor size options = omega arith

pub front_len : (order : Order) (minor size : ℕ) → length (section_front order minor size) ≡ 12
front_len Big minor size = refl
front_len Little minor size = refl

pub front_version : (order : Order) (minor size : ℕ) → field order 0 2 (section_front order minor size) ≡ 1
front_version Big minor size = refl
front_version Little minor size = refl

pub order_told : (order : Order) → order_of (field Big 0 4 (number_bytes order 4 0x1a2b3c4d)) ≡ Some order
order_told Big = refl
order_told Little = refl

pub section_back : (order : Order) (minor size : ℕ) (options more : List ℕ) (total : ℕ) → total ≡ 12 + (16 + length options)
    → total % 4 ≡ 0 → total < 2 ^ 32
    → section_at (number_bytes order 4 total) (section_body order minor size options ++ (number_bytes order 4 total ++ more))
    ≡ Ok (order, more)
unfolding section_at
section_back order minor size options more total total_is even low =
    let tail = number_bytes order 4 total ++ more in
    let front = section_front order minor size in
    rw (
      section_apart order minor size options tail,
      next_part-whole 4 (number_bytes order 4 0x1a2b3c4d) (front ++ (options ++ tail)) (number_len order 4 0x1a2b3c4d),
      order_told order,
      alone order total low,
      room_is 16 (length options) total (front ++ (options ++ tail)) total_is even,
      next_part-whole 12 front (options ++ tail) (front_len order minor size),
      front_version order minor size,
      closed_back order total options more low,
    ) refl

-- ---- an interface

abbrev pub described_front : Order → ℕ → ℕ → ℕ → List ℕ
described_front order link reserved snap = number_bytes order 2 link ++ number_bytes order 2 reserved ++ number_bytes order 4 snap

pub described_len : (order : Order) (link reserved snap : ℕ) → length (described_front order link reserved snap) ≡ 8
described_len Big link reserved snap = refl
described_len Little link reserved snap = refl

pub described_link : (order : Order) (link reserved snap : ℕ) → link < 2 ^ 16
    → field order 0 2 (described_front order link reserved snap) ≡ link
described_link Big link reserved snap low = number_back Big 2 link (number_bytes Big 2 reserved ++ number_bytes Big 4 snap) low
described_link Little link reserved snap low = number_back Little 2 link (number_bytes Little 2 reserved ++ number_bytes Little 4 snap) low

pub described_snap : (order : Order) (link reserved snap : ℕ) → snap < 2 ^ 32
    → field order 4 4 (described_front order link reserved snap) ≡ snap
described_snap Big link reserved snap low = number_back Big 4 snap [] low
described_snap Little link reserved snap low = number_back Little 4 snap [] low

pub interface_back : (now : SectionText) (on : Interface) (reserved total : ℕ) (options more : List ℕ)
    → on.link < 2 ^ 16 → on.snap < 2 ^ 32 → clock_of now.order options ≡ Some on.clock
    → length options ≤ 262144 → length now.interfaces < 4096
    → total ≡ 12 + (8 + length options) → total % 4 ≡ 0 → total < 2 ^ 32
    → interface_at now total (interface_body now.order on.link reserved on.snap options ++ (number_bytes now.order 4 total ++ more))
    ≡ Ok (on, more)
unfolding interface_at
interface_back now on reserved total options more link_low snap_low clock_is few place total_is even low =
    let order = now.order in
    let tail = number_bytes order 4 total ++ more in
    let front = described_front order on.link reserved on.snap in
    let free : nat_lt (length now.interfaces) 4096 ≡ true = lt-ltb _ _ place in
    rw (
      append_assoc front options tail,
      room_is 8 (length options) total (front ++ (options ++ tail)) total_is even,
      next_part-whole 8 front (options ++ tail) (described_len order on.link reserved on.snap),
      captured_whole options tail few,
      clock_is,
      closed_back order total [] more low,
      free,
      described_link order on.link reserved on.snap link_low,
      described_snap order on.link reserved on.snap snap_low,
    ) refl

-- ---- packets

pub three_apart : (a b c d : List ℕ) → ((a ++ b) ++ c) ++ d ≡ a ++ (b ++ (c ++ d))
three_apart a b c d = append_assoc (a ++ b) c d ∙ append_assoc a b (c ++ d)

pub three_len : (a b c : List ℕ) → length ((a ++ b) ++ c) ≡ length a + (length b + length c)
three_len a b c = omega (arith, length-append (a ++ b) c, length-append a b)

pub packet_back : (order : Order) (total room : ℕ) (head : Record) (captured rest more : List ℕ)
    → room ≡ length captured + length rest → length captured ≤ 262144 → total < 2 ^ 32
    → packet_at order total room (length captured) head (captured ++ (rest ++ (number_bytes order 4 total ++ more)))
    ≡ Ok (blocks.packet head captured, more)
unfolding packet_at
packet_back order total room head captured rest more room_is few low =
    let fits : nat_lt room (length captured) ≡ false = le-ltb _ _ (omega (arith, room_is)) in
    let left : room - length captured ≡ length rest = omega (arith, room_is) in
    rw (
      fits,
      left,
      captured_whole captured (rest ++ (number_bytes order 4 total ++ more)) few,
      closed_back order total rest more low,
    ) refl

-- the fields of a packet with a time
pub record IsFront (order : Order) (n : ℕ) (front : List ℕ) (number high low len original : ℕ) : Type 0 where
  pub long : length front ≡ 20
  pub number_is : field order 0 n front ≡ number
  pub high_is : field order 4 4 front ≡ high
  pub low_is : field order 8 4 front ≡ low
  pub len_is : field order 12 4 front ≡ len
  pub original_is : field order 16 4 front ≡ original

abbrev pub enhanced_front : Order → ℕ → ℕ → ℕ → ℕ → ℕ → List ℕ
enhanced_front order number high low len original =
    number_bytes order 4 number ++ number_bytes order 4 high ++ number_bytes order 4 low
    ++ number_bytes order 4 len ++ number_bytes order 4 original

pub enhanced_is : (order : Order) (number high low len original : ℕ) → number < 2 ^ 32 → high < 2 ^ 32 → low < 2 ^ 32 → len < 2 ^ 32
    → original < 2 ^ 32 → IsFront order 4 (enhanced_front order number high low len original) number high low len original
enhanced_is Big number high low len original hn hh hl hc ho = record {
  long = refl;
  number_is = number_back Big 4 number
      (number_bytes Big 4 high ++ number_bytes Big 4 low ++ number_bytes Big 4 len ++ number_bytes Big 4 original) hn;
  high_is = number_back Big 4 high (number_bytes Big 4 low ++ number_bytes Big 4 len ++ number_bytes Big 4 original) hh;
  low_is = number_back Big 4 low (number_bytes Big 4 len ++ number_bytes Big 4 original) hl;
  len_is = number_back Big 4 len (number_bytes Big 4 original) hc;
  original_is = number_back Big 4 original [] ho;
}
enhanced_is Little number high low len original hn hh hl hc ho = record {
  long = refl;
  number_is = number_back Little 4 number
      (number_bytes Little 4 high ++ number_bytes Little 4 low ++ number_bytes Little 4 len ++ number_bytes Little 4 original) hn;
  high_is = number_back Little 4 high (number_bytes Little 4 low ++ number_bytes Little 4 len ++ number_bytes Little 4 original) hh;
  low_is = number_back Little 4 low (number_bytes Little 4 len ++ number_bytes Little 4 original) hl;
  len_is = number_back Little 4 len (number_bytes Little 4 original) hc;
  original_is = number_back Little 4 original [] ho;
}

abbrev pub obsolete_front : Order → ℕ → ℕ → ℕ → ℕ → ℕ → ℕ → List ℕ
obsolete_front order number drops high low len original =
    number_bytes order 2 number ++ number_bytes order 2 drops
    ++ number_bytes order 4 high ++ number_bytes order 4 low
    ++ number_bytes order 4 len ++ number_bytes order 4 original

pub obsolete_is : (order : Order) (number drops high low len original : ℕ) → number < 2 ^ 16 → high < 2 ^ 32 → low < 2 ^ 32 → len < 2 ^ 32
    → original < 2 ^ 32 → IsFront order 2 (obsolete_front order number drops high low len original) number high low len original
obsolete_is Big number drops high low len original hn hh hl hc ho = record {
  long = refl;
  number_is = number_back Big 2 number (number_bytes Big 2 drops ++ number_bytes Big 4 high ++ number_bytes Big 4 low
      ++ number_bytes Big 4 len ++ number_bytes Big 4 original) hn;
  high_is = number_back Big 4 high (number_bytes Big 4 low ++ number_bytes Big 4 len ++ number_bytes Big 4 original) hh;
  low_is = number_back Big 4 low (number_bytes Big 4 len ++ number_bytes Big 4 original) hl;
  len_is = number_back Big 4 len (number_bytes Big 4 original) hc;
  original_is = number_back Big 4 original [] ho;
}
obsolete_is Little number drops high low len original hn hh hl hc ho = record {
  long = refl;
  number_is = number_back Little 2 number (number_bytes Little 2 drops ++ number_bytes Little 4 high ++ number_bytes Little 4 low
      ++ number_bytes Little 4 len ++ number_bytes Little 4 original) hn;
  high_is = number_back Little 4 high (number_bytes Little 4 low ++ number_bytes Little 4 len ++ number_bytes Little 4 original) hh;
  low_is = number_back Little 4 low (number_bytes Little 4 len ++ number_bytes Little 4 original) hl;
  len_is = number_back Little 4 len (number_bytes Little 4 original) hc;
  original_is = number_back Little 4 original [] ho;
}

pub timed_back : (n : ℕ) (now : SectionText) (on : Interface) (number high low original total : ℕ) (front captured rest more : List ℕ)
    → IsFront now.order n front number high low (length captured) original → slice_get now.interfaces number ≡ Some on
    → length captured ≤ 262144 → total ≡ 12 + (20 + (length captured + length rest)) → total % 4 ≡ 0 → total < 2 ^ 32
    → timed_packet n now total (((front ++ captured) ++ rest) ++ (number_bytes now.order 4 total ++ more))
    ≡ Ok (blocks.packet (timed_record on number high low original) captured, more)
unfolding timed_packet
timed_back n now on number high low original total front captured rest more k on_is few total_is even fits =
    let tail = number_bytes now.order 4 total ++ more in
    rw (
      three_apart front captured rest tail,
      room_is 20 (length captured + length rest) total (front ++ (captured ++ (rest ++ tail))) total_is even,
      next_part-whole 20 front (captured ++ (rest ++ tail)) k.long,
      k.number_is,
      on_is,
      k.len_is,
      k.high_is,
      k.low_is,
      k.original_is,
    )
    (packet_back now.order total (length captured + length rest)
    (timed_record on number high low original) captured rest more refl few fits)

pub simple_back : (now : SectionText) (on : Interface) (original total : ℕ) (captured rest more : List ℕ)
    → slice_get now.interfaces 0 ≡ Some on → original < 2 ^ 32 → length captured ≡ snapped on.snap original
    → length captured ≤ 262144 → total ≡ 12 + (4 + (length captured + length rest)) → total % 4 ≡ 0 → total < 2 ^ 32
    → simple_packet now total (simple_body now.order original captured rest ++ (number_bytes now.order 4 total ++ more))
    ≡ Ok (blocks.packet (untimed_record on original) captured, more)
unfolding simple_packet
simple_back now on original total captured rest more on_is low len_is few total_is even fits =
    let tail = number_bytes now.order 4 total ++ more in
    let front = number_bytes now.order 4 original in
    rw (
      three_apart front captured rest tail,
      room_is 4 (length captured + length rest) total (front ++ (captured ++ (rest ++ tail))) total_is even,
      next_part-whole 4 front (captured ++ (rest ++ tail)) (number_len now.order 4 original),
      on_is,
      alone now.order original low,
      ← len_is,
    )
    (packet_back now.order total (length captured + length rest)
    (untimed_record on original) captured rest more refl few fits)

pub other_back : (order : Order) (total : ℕ) (body more : List ℕ) → total ≡ 12 + length body → total % 4 ≡ 0 → total < 2 ^ 32
    → next_other order total (body ++ (number_bytes order 4 total ++ more)) ≡ Ok (blocks.other, more)
unfolding next_other other_at
other_back order total body more total_is even low =
    rw (
      room_is 0 (length body) total (body ++ (number_bytes order 4 total ++ more)) (omega (arith, total_is)) even,
      closed_back order total body more low,
    ) refl
