-- What is read of a capture of pcapng is its text.
use Rattle.std.proofs.Common.{◌≡◌, ℕ, suc, ◌+◌, ◌-◌, ◌%◌, ◌^◌, ◌<◌, ◌≤◌, ◌==◌, nat_lt, List, [], ◌++◌}
use Rattle.std.proofs.Common.{length, drop, refl, sym, ap, subst, ◌∙◌, append_assoc, append-nil, length-append, arith}
use Rattle.std.specs.Prelude.{Some, None, Ok, if◌then◌else◌, slice_get}
use Rattle.std.proofs.lemmas.Bool.{ltb-false, ltb-true, eqb-true}
use Rattle.std.proofs.lemmas.List.{drop_all, nil_from_length}
use Rattle.swim_pack.specs.Composing.{refuses, gives}
use Rattle.capture.specs.declared.capture_fault.CaptureFault.TheVariants.{BadBlock, TooManyInterfaces, NotCapture, UnknownInterface}
use Rattle.capture.specs.declared.interface.Interface.{Interface}
use Rattle.capture.specs.declared.order.Order.{Order}
use Rattle.capture.specs.declared.order.Order.TheVariants.{Big, Little}
use Rattle.capture.specs.declared.record.Record.{Record}
use Rattle.capture.specs.declared.stop.Stop.TheVariants.{Fault}
use Rattle.capture.specs.Clock.{clock_of, default_clock}
use Rattle.capture.specs.PcapText.{number_bytes}
use Rattle.capture.specs.Pcapng.{BlockText, BlockText as blocks, SectionText, room_in, closed, section_at, order_in, clock_in}
use Rattle.capture.specs.Pcapng.{has_place, interface_at, described, room_behind}
use Rattle.capture.specs.Pcapng.{packet_at, timed_head, timed_packet, snapped, simple_packet}
use Rattle.capture.specs.PcapngText.{IsBody, section_body, interface_body}
use Rattle.capture.specs.PcapngText.{untimed_record, OptionsText}
use Rattle.capture.specs.Taking.{order_of, field, next_part, skipped, captured_at, checked_version}
use Rattle.capture.specs.Whole.{AreBytes}
use Rattle.capture.proofs.Inverting.{parted, chosen, if_is, some_same, some_read, part_read, captured_read, version_read}
use Rattle.capture.proofs.NumberBytes.{part_written, front_written, number_low, bytes_drop, bytes_front, bytes_behind}
use Rattle.capture.proofs.Options.{options_text}
use Rattle.capture.proofs.Prompting.{same_value, same_rest}
use Rattle.capture.proofs.PcapngParts.{section_front, section_apart, section_len, described_front, enhanced_front, obsolete_front}

-- all the bytes are a number
pub whole_number : (order : Order) (b : List ℕ) → AreBytes b → length b ≡ 4 → b ≡ number_bytes order 4 (field order 0 4 b)
whole_number order b are long =
    front_written order 4 b are (omega (arith, long))
    ∙ ap (λ (l : List ℕ). number_bytes order 4 (field order 0 4 b) ++ l) (drop_all 4 b (omega (arith, long)))
    ∙ append-nil (number_bytes order 4 (field order 0 4 b))

-- the last number
pub last_number : (order : Order) (o : ℕ) (b : List ℕ) → AreBytes b → length b ≡ o + 4 → drop o b ≡ number_bytes order 4 (field order o 4 b)
last_number order o b are long =
    part_written order o 4 b are (omega (arith, long))
    ∙ ap (λ (l : List ℕ). number_bytes order 4 (field order o 4 b) ++ l) (drop_all (o + 4) b (omega (arith, long)))
    ∙ append-nil (number_bytes order 4 (field order o 4 b))

pub low_field : (order : Order) (o n : ℕ) (b : List ℕ) → AreBytes b → field order o n b < 256 ^ n
low_field order o n b are = number_low order n (drop o b) (bytes_drop o b are)

-- ---- the parts of a block

pub record IsRoom (fields total room : ℕ) (bytes rest : List ℕ) : Type 0 where
  pub even : total % 4 ≡ 0
  pub total_is : total ≡ 12 + (fields + room)
  pub same_bytes : bytes ≡ rest

pub room_read : (fields total room : ℕ) (bytes rest : List ℕ) → room_in fields total bytes ≡ Ok (room, rest)
    → IsRoom fields total room bytes rest
room_read fields total room bytes rest e =
    chosen (IsRoom fields total room bytes rest) (total % 4 == 0)
    (if nat_lt total (fields + 12) then refuses (Fault BadBlock) else gives (total - (fields + 12))) (refuses (Fault BadBlock))
    bytes rest room e
    (λ even more. chosen (IsRoom fields total room bytes rest) (nat_lt total (fields + 12)) (refuses (Fault BadBlock))
    (gives (total - (fields + 12))) bytes rest room more (λ short absent. absurd cc) (λ long made.
    let fits : fields + 12 ≤ total = ltb-false _ _ long in
    let room_is : total - (fields + 12) ≡ room = same_value (total - (fields + 12)) room bytes rest made in
    record {
      even = eqb-true _ _ even;
      total_is = omega (arith, fits, room_is);
      same_bytes = same_rest (total - (fields + 12)) room bytes rest made;
    }))
    (λ odd absent. absurd cc)

pub record IsEnd (order : Order) (n total : ℕ) (bytes rest : List ℕ) : Type 0 where
  pub gone : List ℕ
  pub long : length gone ≡ n
  pub parts : bytes ≡ gone ++ (number_bytes order 4 total ++ rest)

pub closed_read : (order : Order) (n total : ℕ) (bytes rest : List ℕ) → AreBytes bytes → closed order n total bytes ≡ Ok (tt, rest)
    → IsEnd order n total bytes rest
unfolding closed skipped
closed_read order n total bytes rest are e =
    let p = parted (skipped n) _ bytes tt rest e in
    let s = parted (next_part n) _ bytes p.middle p.left p.front in
    let front = part_read n bytes s.middle s.left s.front in
    let left : s.left ≡ p.left = same_rest tt p.middle s.left p.left s.back in
    let q = parted (next_part 4) _ p.left tt rest p.back in
    let again = part_read 4 p.left q.middle q.left q.front in
    let are_left : AreBytes p.left = subst AreBytes left (bytes_behind s.middle s.left (subst AreBytes front.1 are)) in
    let are_again : AreBytes q.middle = bytes_front q.middle q.left (subst AreBytes again.1 are_left) in
    chosen (IsEnd order n total bytes rest) (field order 0 4 q.middle == total) (gives tt) (refuses (Fault BadBlock)) q.left rest tt q.back
    (λ same made.
    let total_is : field order 0 4 q.middle ≡ total = eqb-true _ _ same in
    let last : q.middle ≡ number_bytes order 4 total =
    whole_number order q.middle are_again again.0 ∙ ap (number_bytes order 4) total_is in
    let over : q.left ≡ rest = same_rest tt tt q.left rest made in
    record {
      gone = s.middle;
      long = front.0;
      parts = front.1 ∙ ap (λ (l : List ℕ). s.middle ++ l) (left ∙ again.1 ∙ ap (λ (l : List ℕ). l ++ q.left) last
          ∙ ap (λ (l : List ℕ). number_bytes order 4 total ++ l) over);
    })
    (λ different absent. absurd cc)

pub place_read : (count : ℕ) (bytes rest : List ℕ) → has_place count bytes ≡ Ok (tt, rest) → (count < 4096) × (bytes ≡ rest)
place_read count bytes rest e =
    chosen ((count < 4096) × (bytes ≡ rest)) (nat_lt count 4096) (gives tt) (refuses (Fault TooManyInterfaces)) bytes rest tt e
    (λ few made. (ltb-true _ _ few, same_rest tt tt bytes rest made)) (λ many absent. absurd cc)

-- ---- a section header

pub told_order : (b : List ℕ) (order : Order) → AreBytes b → length b ≡ 4 → order_of (field Big 0 4 b) ≡ Some order
    → b ≡ number_bytes order 4 0x1a2b3c4d
told_order b order are long e =
    let magic = field Big 0 4 b in
    let whole : b ≡ number_bytes Big 4 magic = whole_number Big b are long in
    if_is (b ≡ number_bytes order 4 0x1a2b3c4d) (magic == 0x1a2b3c4d) (Some Big)
    (if magic == 0x4d3c2b1a then Some Little else None) (Some order) e
    (λ same is.
    let order_is : Big ≡ order = some_same Big order is in
    let told : b ≡ number_bytes Big 4 0x1a2b3c4d = whole ∙ ap (number_bytes Big 4) (eqb-true _ _ same) in
    subst (λ (o : Order). b ≡ number_bytes o 4 0x1a2b3c4d) order_is told)
    (λ other more. if_is (b ≡ number_bytes order 4 0x1a2b3c4d) (magic == 0x4d3c2b1a) (Some Little) None (Some order) more
    (λ same is.
    let order_is : Little ≡ order = some_same Little order is in
    let told : b ≡ number_bytes Little 4 0x1a2b3c4d = whole ∙ ap (number_bytes Big 4) (eqb-true _ _ same) in
    subst (λ (o : Order). b ≡ number_bytes o 4 0x1a2b3c4d) order_is told)
    (λ unknown absent. absurd cc))

pub record IsSectionAt (order : Order) (claimed bytes rest : List ℕ) : Type 0 where
  pub minor : ℕ
  pub size : ℕ
  pub options : List ℕ
  pub body : IsBody (section_body order minor size options)
  pub total : claimed ≡ number_bytes order 4 (12 + length (section_body order minor size options))
  pub parts : bytes ≡ section_body order minor size options
      ++ (number_bytes order 4 (12 + length (section_body order minor size options)) ++ rest)

pub section_written : (order : Order) (b : List ℕ) → AreBytes b → length b ≡ 12 → field order 0 2 b ≡ 1
    → b ≡ section_front order (field order 2 2 b) (field order 4 8 b)
section_written order b are long one =
    let first = number_bytes order 2 1 in
    let minor = number_bytes order 2 (field order 2 2 b) in
    let size = number_bytes order 8 (field order 4 8 b) in
    let last : drop 4 b ≡ size =
    part_written order 4 8 b are (omega (arith, long)) ∙ ap (λ (l : List ℕ). size ++ l) (drop_all 12 b (omega (arith, long)))
    ∙ append-nil size in
    front_written order 2 b are (omega (arith, long)) ∙ ap (λ k. number_bytes order 2 k ++ drop 2 b) one
    ∙ ap (λ (l : List ℕ). first ++ l) (part_written order 2 2 b are (omega (arith, long)) ∙ ap (λ (l : List ℕ). minor ++ l) last)
    ∙ sym (append_assoc first minor size)

pub section_read : (order : Order) (claimed bytes rest : List ℕ) → AreBytes claimed → length claimed ≡ 4 → AreBytes bytes
    → section_at claimed bytes ≡ Ok (order, rest) → IsSectionAt order claimed bytes rest
unfolding section_at
section_read order claimed bytes rest are_claimed long are e =
    let p = parted (next_part 4) _ bytes order rest e in
    let magic = part_read 4 bytes p.middle p.left p.front in
    let q = parted (order_in (field Big 0 4 p.middle)) _ p.left order rest p.back in
    let told = some_read (Fault NotCapture) (order_of (field Big 0 4 p.middle)) p.left q.left q.middle q.front in
    let o = q.middle in
    let total = field o 0 4 claimed in
    let r = parted (room_in 16 total) _ q.left order rest q.back in
    let room = room_read 16 total r.middle q.left r.left r.front in
    let v = parted (next_part 12) _ r.left order rest r.back in
    let version = part_read 12 r.left v.middle v.left v.front in
    let c = parted (checked_version 1 (field o 0 2 v.middle)) _ v.left order rest v.back in
    let one = version_read 1 (field o 0 2 v.middle) v.left c.left c.front in
    let g = parted (closed o r.middle total) _ c.left order rest c.back in
    let same : o ≡ order = same_value o order g.left rest g.back in
    let over : g.left ≡ rest = same_rest o order g.left rest g.back in
    let are_magic : AreBytes p.middle = bytes_front p.middle p.left (subst AreBytes magic.1 are) in
    let behind : p.left ≡ r.left = told.1 ∙ room.same_bytes in
    let are_behind : AreBytes r.left = subst AreBytes behind (bytes_behind p.middle p.left (subst AreBytes magic.1 are)) in
    let are_version : AreBytes v.middle = bytes_front v.middle v.left (subst AreBytes version.1 are_behind) in
    let are_rest : AreBytes c.left = subst AreBytes one.1 (bytes_behind v.middle v.left (subst AreBytes version.1 are_behind)) in
    let closing = closed_read o r.middle total c.left g.left are_rest g.front in
    let minor = field o 2 2 v.middle in
    let size = field o 4 8 v.middle in
    let options = closing.gone in
    let body = section_body o minor size options in
    let body_long : length body ≡ 16 + length options = section_len o minor size options in
    let total_is : total ≡ 12 + length body = omega (arith, body_long, room.total_is, closing.long) in
    let low : total < 2 ^ 32 = low_field o 0 4 claimed are_claimed in
    let front : v.middle ≡ section_front o minor size = section_written o v.middle are_version version.0 one.0 in
    let tail = number_bytes o 4 total ++ g.left in
    let all : bytes ≡ body ++ tail =
    magic.1 ∙ ap (λ (l : List ℕ). l ++ p.left) (told_order p.middle o are_magic magic.0 told.0)
    ∙ ap (λ (l : List ℕ). number_bytes o 4 0x1a2b3c4d ++ l) (behind ∙ version.1 ∙ ap (λ (l : List ℕ). l ++ v.left) front
    ∙ ap (λ (l : List ℕ). section_front o minor size ++ l) (one.1 ∙ closing.parts))
    ∙ sym (section_apart o minor size options tail) in
    subst (λ (o : Order). IsSectionAt o claimed bytes rest) same
    (subst (λ (l : List ℕ). IsSectionAt o claimed bytes l) over
    (record {
      minor = minor;
      size = size;
      options = options;
      body = (omega (arith, total_is, room.even), omega (arith, total_is, low));
      total = whole_number o claimed are_claimed long ∙ ap (number_bytes o 4) total_is;
      parts = all ∙ ap (λ k. body ++ (number_bytes o 4 k ++ g.left)) total_is;
    }))

-- ---- an interface

pub record IsInterface (now : SectionText) (total : ℕ) (on : Interface) (bytes rest : List ℕ) : Type 0 where
  pub reserved : ℕ
  pub options : List ℕ
  pub link_low : on.link < 2 ^ 16
  pub snap_low : on.snap < 2 ^ 32
  pub text : OptionsText now.order default_clock options on.clock
  pub few : length options ≤ 262144
  pub place : length now.interfaces < 4096
  pub even : total % 4 ≡ 0
  pub total_is : total ≡ 12 + length (interface_body now.order on.link reserved on.snap options)
  pub parts : bytes ≡ interface_body now.order on.link reserved on.snap options ++ (number_bytes now.order 4 total ++ rest)

pub described_written : (order : Order) (b : List ℕ) → AreBytes b → length b ≡ 8
    → b ≡ described_front order (field order 0 2 b) (field order 2 2 b) (field order 4 4 b)
described_written order b are long =
    let link = number_bytes order 2 (field order 0 2 b) in
    let reserved = number_bytes order 2 (field order 2 2 b) in
    let snap = number_bytes order 4 (field order 4 4 b) in
    front_written order 2 b are (omega (arith, long))
    ∙ ap (λ (l : List ℕ). link ++ l) (part_written order 2 2 b are (omega (arith, long))
    ∙ ap (λ (l : List ℕ). reserved ++ l) (last_number order 4 b are long))
    ∙ sym (append_assoc link reserved snap)

pub interface_read : (now : SectionText) (total : ℕ) (on : Interface) (bytes rest : List ℕ) → AreBytes bytes
    → interface_at now total bytes ≡ Ok (on, rest) → IsInterface now total on bytes rest
unfolding interface_at
interface_read now total on bytes rest are e =
    let order = now.order in
    let p = parted (room_in 8 total) _ bytes on rest e in
    let room = room_read 8 total p.middle bytes p.left p.front in
    let f = parted (next_part 8) _ p.left on rest p.back in
    let fields = part_read 8 p.left f.middle f.left f.front in
    let o = parted (captured_at p.middle) _ f.left on rest f.back in
    let opts = captured_read p.middle f.left o.middle o.left o.front in
    let c = parted (clock_in order o.middle) _ o.left on rest o.back in
    let clock = some_read (Fault BadBlock) (clock_of order o.middle) o.left c.left c.middle c.front in
    let g = parted (closed order 0 total) _ c.left on rest c.back in
    let h = parted (has_place (length now.interfaces)) _ g.left on rest g.back in
    let place = place_read (length now.interfaces) g.left h.left h.front in
    let are_0 : AreBytes p.left = subst AreBytes room.same_bytes are in
    let are_fields : AreBytes f.middle = bytes_front f.middle f.left (subst AreBytes fields.1 are_0) in
    let are_1 : AreBytes f.left = bytes_behind f.middle f.left (subst AreBytes fields.1 are_0) in
    let are_options : AreBytes o.middle = bytes_front o.middle o.left (subst AreBytes opts.2 are_1) in
    let are_2 : AreBytes c.left = subst AreBytes clock.1 (bytes_behind o.middle o.left (subst AreBytes opts.2 are_1)) in
    let closing = closed_read order 0 total c.left g.left are_2 g.front in
    let none : closing.gone ≡ [] = nil_from_length closing.gone closing.long in
    let made : Interface = record { link = field order 0 2 f.middle; snap = field order 4 4 f.middle; clock = c.middle } in
    let same : made ≡ on = same_value made on h.left rest h.back in
    let over : h.left ≡ rest = same_rest made on h.left rest h.back in
    let reserved = field order 2 2 f.middle in
    let front = described_front order made.link reserved made.snap in
    let front_is : f.middle ≡ front = described_written order f.middle are_fields fields.0 in
    let long : length (front ++ o.middle) ≡ 8 + length o.middle =
    omega (arith, length-append front o.middle, ap length front_is, fields.0) in
    let tail = number_bytes order 4 total ++ g.left in
    let all : bytes ≡ (front ++ o.middle) ++ tail =
    room.same_bytes ∙ fields.1 ∙ ap (λ (l : List ℕ). l ++ f.left) front_is
    ∙ ap (λ (l : List ℕ). front ++ l) (opts.2 ∙ ap (λ (l : List ℕ). o.middle ++ l) (clock.1 ∙ closing.parts
    ∙ ap (λ (l : List ℕ). l ++ tail) none)) ∙ sym (append_assoc front o.middle tail) in
    subst (λ (i : Interface). IsInterface now total i bytes rest) same
    (record {
      reserved = reserved;
      options = o.middle;
      link_low = low_field order 0 2 f.middle are_fields;
      snap_low = low_field order 4 4 f.middle are_fields;
      text = options_text (suc (length o.middle)) order o.middle default_clock c.middle are_options
          (omega (arith, room.even, room.total_is, opts.1)) clock.0;
      few = omega (arith, opts.0, opts.1);
      place = place.0;
      even = room.even;
      total_is = omega (arith, room.total_is, opts.1, long);
      parts = all ∙ ap (λ (l : List ℕ). (front ++ o.middle) ++ (number_bytes order 4 total ++ l)) (place.1 ∙ over);
    })

-- ---- packets

pub record IsPacketAt (order : Order) (total room captured : ℕ) (head : Record) (what : BlockText) (bytes rest : List ℕ) : Type 0 where
  pub text : List ℕ
  pub more : List ℕ
  pub what_is : blocks.packet head text ≡ what
  pub long : length text ≡ captured
  pub few : captured ≤ 262144
  pub room_is : room ≡ length text + length more
  pub parts : bytes ≡ text ++ (more ++ (number_bytes order 4 total ++ rest))

pub packet_read : (order : Order) (total room captured : ℕ) (head : Record) (what : BlockText) (bytes rest : List ℕ) → AreBytes bytes
    → packet_at order total room captured head bytes ≡ Ok (what, rest) → IsPacketAt order total room captured head what bytes rest
unfolding packet_at
packet_read order total room captured head what bytes rest are e =
    let p = parted (room_behind captured room) _ bytes what rest e in
    let left = left_read captured room p.middle bytes p.left p.front in
    let c = parted (captured_at captured) _ p.left what rest p.back in
    let text = captured_read captured p.left c.middle c.left c.front in
    let g = parted (closed order p.middle total) _ c.left what rest c.back in
    let are_0 : AreBytes p.left = subst AreBytes left.1 are in
    let are_1 : AreBytes c.left = bytes_behind c.middle c.left (subst AreBytes text.2 are_0) in
    let closing = closed_read order p.middle total c.left g.left are_1 g.front in
    let over : g.left ≡ rest = same_rest (blocks.packet head c.middle) what g.left rest g.back in
    record {
      text = c.middle;
      more = closing.gone;
      what_is = same_value (blocks.packet head c.middle) what g.left rest g.back;
      long = text.1;
      few = text.0;
      room_is = omega (arith, left.0, text.1, closing.long);
      parts = left.1 ∙ text.2 ∙ ap (λ (l : List ℕ). c.middle ++ l) (closing.parts
          ∙ ap (λ (l : List ℕ). closing.gone ++ (number_bytes order 4 total ++ l)) over);
    }
  where
    left_read : (captured room left : ℕ) (bytes rest : List ℕ) → room_behind captured room bytes ≡ Ok (left, rest)
        → (room ≡ captured + left) × (bytes ≡ rest)
    left_read captured room left bytes rest e =
        chosen ((room ≡ captured + left) × (bytes ≡ rest)) (nat_lt room captured) (refuses (Fault BadBlock)) (gives (room - captured))
        bytes rest left e (λ over absent. absurd cc) (λ fits made.
        let le : captured ≤ room = ltb-false _ _ fits in
        let is : room - captured ≡ left = same_value (room - captured) left bytes rest made in
        (omega (arith, le, is), same_rest (room - captured) left bytes rest made))

pub record IsTimed (n : ℕ) (now : SectionText) (total : ℕ) (what : BlockText) (bytes rest : List ℕ) : Type 0 where
  pub on : Interface
  pub fields : List ℕ
  pub text : List ℕ
  pub more : List ℕ
  pub are : AreBytes fields
  pub long : length fields ≡ 20
  pub on_is : slice_get now.interfaces (field now.order 0 n fields) ≡ Some on
  pub what_is : blocks.packet (timed_head now.order on (field now.order 0 n fields) fields) text ≡ what
  pub text_long : field now.order 12 4 fields ≡ length text
  pub few : length text ≤ 262144
  pub even : total % 4 ≡ 0
  pub total_is : total ≡ 12 + (20 + (length text + length more))
  pub parts : bytes ≡ fields ++ (text ++ (more ++ (number_bytes now.order 4 total ++ rest)))

pub timed_read : (n : ℕ) (now : SectionText) (total : ℕ) (what : BlockText) (bytes rest : List ℕ) → AreBytes bytes
    → timed_packet n now total bytes ≡ Ok (what, rest) → IsTimed n now total what bytes rest
unfolding timed_packet
timed_read n now total what bytes rest are e =
    let order = now.order in
    let p = parted (room_in 20 total) _ bytes what rest e in
    let room = room_read 20 total p.middle bytes p.left p.front in
    let f = parted (next_part 20) _ p.left what rest p.back in
    let fields = part_read 20 p.left f.middle f.left f.front in
    let number = field order 0 n f.middle in
    let d = parted (described now number) _ f.left what rest f.back in
    let on = some_read (Fault (UnknownInterface number)) (slice_get now.interfaces number) f.left d.left d.middle d.front in
    let are_0 : AreBytes p.left = subst AreBytes room.same_bytes are in
    let are_1 : AreBytes d.left = subst AreBytes on.1 (bytes_behind f.middle f.left (subst AreBytes fields.1 are_0)) in
    let head = timed_head order d.middle number f.middle in
    let k = packet_read order total p.middle (field order 12 4 f.middle) head what d.left rest are_1 d.back in
    record {
      on = d.middle;
      fields = f.middle;
      text = k.text;
      more = k.more;
      are = bytes_front f.middle f.left (subst AreBytes fields.1 are_0);
      long = fields.0;
      on_is = on.0;
      what_is = k.what_is;
      text_long = sym k.long;
      few = omega (arith, k.long, k.few);
      even = room.even;
      total_is = omega (arith, room.total_is, k.room_is);
      parts = room.same_bytes ∙ fields.1 ∙ ap (λ (l : List ℕ). f.middle ++ l) (on.1 ∙ k.parts);
    }

pub enhanced_right : (order : Order) (a b c d e : ℕ)
    → number_bytes order 4 a ++ (number_bytes order 4 b ++ (number_bytes order 4 c ++ (number_bytes order 4 d ++ number_bytes order 4 e)))
    ≡ enhanced_front order a b c d e
enhanced_right Big a b c d e = refl
enhanced_right Little a b c d e = refl

pub enhanced_written : (order : Order) (b : List ℕ) → AreBytes b → length b ≡ 20
    → b ≡ enhanced_front order (field order 0 4 b) (field order 4 4 b) (field order 8 4 b) (field order 12 4 b) (field order 16 4 b)
enhanced_written order b are long =
    front_written order 4 b are (omega (arith, long))
    ∙ ap (λ (l : List ℕ). number_bytes order 4 (field order 0 4 b) ++ l) (part_written order 4 4 b are (omega (arith, long))
    ∙ ap (λ (l : List ℕ). number_bytes order 4 (field order 4 4 b) ++ l) (part_written order 8 4 b are (omega (arith, long))
    ∙ ap (λ (l : List ℕ). number_bytes order 4 (field order 8 4 b) ++ l) (part_written order 12 4 b are (omega (arith, long))
    ∙ ap (λ (l : List ℕ). number_bytes order 4 (field order 12 4 b) ++ l) (last_number order 16 b are long))))
    ∙ enhanced_right order (field order 0 4 b) (field order 4 4 b) (field order 8 4 b) (field order 12 4 b) (field order 16 4 b)

pub obsolete_right : (order : Order) (n a b c d e : ℕ)
    → number_bytes order 2 n ++ (number_bytes order 2 a ++ (number_bytes order 4 b ++ (number_bytes order 4 c
    ++ (number_bytes order 4 d ++ number_bytes order 4 e)))) ≡ obsolete_front order n a b c d e
obsolete_right Big n a b c d e = refl
obsolete_right Little n a b c d e = refl

pub obsolete_written : (order : Order) (b : List ℕ) → AreBytes b → length b ≡ 20
    → b ≡ obsolete_front order (field order 0 2 b) (field order 2 2 b) (field order 4 4 b) (field order 8 4 b) (field order 12 4 b)
    (field order 16 4 b)
obsolete_written order b are long =
    front_written order 2 b are (omega (arith, long))
    ∙ ap (λ (l : List ℕ). number_bytes order 2 (field order 0 2 b) ++ l) (part_written order 2 2 b are (omega (arith, long))
    ∙ ap (λ (l : List ℕ). number_bytes order 2 (field order 2 2 b) ++ l) (part_written order 4 4 b are (omega (arith, long))
    ∙ ap (λ (l : List ℕ). number_bytes order 4 (field order 4 4 b) ++ l) (part_written order 8 4 b are (omega (arith, long))
    ∙ ap (λ (l : List ℕ). number_bytes order 4 (field order 8 4 b) ++ l) (part_written order 12 4 b are (omega (arith, long))
    ∙ ap (λ (l : List ℕ). number_bytes order 4 (field order 12 4 b) ++ l) (last_number order 16 b are long)))))
    ∙ obsolete_right order (field order 0 2 b) (field order 2 2 b) (field order 4 4 b) (field order 8 4 b) (field order 12 4 b)
    (field order 16 4 b)

pub record IsSimple (now : SectionText) (total : ℕ) (what : BlockText) (bytes rest : List ℕ) : Type 0 where
  pub on : Interface
  pub original : ℕ
  pub text : List ℕ
  pub more : List ℕ
  pub on_is : slice_get now.interfaces 0 ≡ Some on
  pub low : original < 2 ^ 32
  pub what_is : blocks.packet (untimed_record on original) text ≡ what
  pub text_long : length text ≡ snapped on.snap original
  pub few : length text ≤ 262144
  pub even : total % 4 ≡ 0
  pub total_is : total ≡ 12 + (4 + (length text + length more))
  pub parts : bytes ≡ number_bytes now.order 4 original ++ (text ++ (more ++ (number_bytes now.order 4 total ++ rest)))

pub simple_read : (now : SectionText) (total : ℕ) (what : BlockText) (bytes rest : List ℕ) → AreBytes bytes
    → simple_packet now total bytes ≡ Ok (what, rest) → IsSimple now total what bytes rest
unfolding simple_packet
simple_read now total what bytes rest are e =
    let order = now.order in
    let p = parted (room_in 4 total) _ bytes what rest e in
    let room = room_read 4 total p.middle bytes p.left p.front in
    let f = parted (next_part 4) _ p.left what rest p.back in
    let fields = part_read 4 p.left f.middle f.left f.front in
    let original = field order 0 4 f.middle in
    let d = parted (described now 0) _ f.left what rest f.back in
    let on = some_read (Fault (UnknownInterface 0)) (slice_get now.interfaces 0) f.left d.left d.middle d.front in
    let are_0 : AreBytes p.left = subst AreBytes room.same_bytes are in
    let are_fields : AreBytes f.middle = bytes_front f.middle f.left (subst AreBytes fields.1 are_0) in
    let are_1 : AreBytes d.left = subst AreBytes on.1 (bytes_behind f.middle f.left (subst AreBytes fields.1 are_0)) in
    let head = untimed_record d.middle original in
    let k = packet_read order total p.middle (snapped d.middle.snap original) head what d.left rest are_1 d.back in
    record {
      on = d.middle;
      original = original;
      text = k.text;
      more = k.more;
      on_is = on.0;
      low = low_field order 0 4 f.middle are_fields;
      what_is = k.what_is;
      text_long = k.long;
      few = omega (arith, k.long, k.few);
      even = room.even;
      total_is = omega (arith, room.total_is, k.room_is);
      parts = room.same_bytes ∙ fields.1 ∙ ap (λ (l : List ℕ). l ++ f.left) (whole_number order f.middle are_fields fields.0)
          ∙ ap (λ (l : List ℕ). number_bytes order 4 original ++ l) (on.1 ∙ k.parts);
    }
