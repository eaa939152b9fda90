-- What is read of a block of pcapng is its text.
use Rattle.std.proofs.Common.{◌≡◌, ℕ, ◌+◌, ◌%◌, ◌^◌, ◌<◌, ◌==◌, true, List, ◌++◌}
use Rattle.std.proofs.Common.{length, take, drop, refl, sym, ap, ap₂, subst, ◌∙◌, arith}
use Rattle.std.specs.Prelude.{Ok, if◌then◌else◌}
use Rattle.std.proofs.lemmas.Bool.{eqb-true, eqb-false}
use Rattle.capture.specs.declared.order.Order.{Order}
use Rattle.capture.specs.declared.order.Order.TheVariants.{Big, Little}
use Rattle.capture.specs.PcapText.{number_bytes}
use Rattle.capture.specs.Pcapng.{BlockText, BlockText as blocks, SectionText, room_in, section_at}
use Rattle.capture.specs.Pcapng.{interface_at, timed_packet, simple_packet}
use Rattle.capture.specs.Pcapng.{other_at, next_other, next_section, next_interface, block_of, block_at}
use Rattle.capture.specs.PcapngText.{block_bytes, IsBody, section_body, interface_body, enhanced_body, obsolete_body}
use Rattle.capture.specs.PcapngText.{simple_body, IsOther, IsBlock, IsBlock as is}
use Rattle.capture.specs.PcapngText.IsSection.{header}
use Rattle.capture.specs.Taking.{Reading, field, next_header}
use Rattle.capture.specs.Whole.{AreBytes}
use Rattle.capture.proofs.Inverting.{parted, chosen, header_read}
use Rattle.capture.proofs.NumberBytes.{front_written, number_len, bytes_front, bytes_behind}
use Rattle.capture.proofs.Prompting.{same_value, same_rest}
use Rattle.capture.proofs.PcapngParts.{three_apart, three_len, enhanced_front, obsolete_front}
use Rattle.capture.proofs.PcapngText.{head_bytes, head_claims}
use Rattle.capture.proofs.PcapngRead.{last_number, low_field, room_read, closed_read, section_read, interface_read, timed_read}
use Rattle.capture.proofs.PcapngRead.{enhanced_written, obsolete_written, simple_read}

-- ---- a block

pub record IsBlockAt (now : SectionText) (what : BlockText) (bytes rest : List ℕ) : Type 0 where
  pub front : List ℕ
  pub block : IsBlock now front what
  pub parts : bytes ≡ front ++ rest

-- the head of a block, its body, and the total length again
pub joined : (order : Order) (kind total : ℕ) (body head left bytes rest : List ℕ) → bytes ≡ head ++ left
    → head ≡ head_bytes order kind total → left ≡ body ++ (number_bytes order 4 total ++ rest) → total ≡ 12 + length body
    → bytes ≡ block_bytes order kind body ++ rest
joined order kind total body head left bytes rest parts head_is left_is total_is =
    parts ∙ ap₂ (λ (h l : List ℕ). h ++ l) head_is left_is
    ∙ sym (three_apart (head_bytes order kind total) body (number_bytes order 4 total) rest)
    ∙ ap (λ k. ((head_bytes order kind k ++ body) ++ number_bytes order 4 k) ++ rest) total_is

body_fits : (total : ℕ) (body : List ℕ) → total ≡ 12 + length body → total % 4 ≡ 0 → total < 2 ^ 32 → IsBody body
body_fits total body total_is even low = (omega (arith, total_is, even), omega (arith, total_is, low))

pub same_kind : (at order : Order) → number_bytes at 4 0x0a0d0d0a ≡ number_bytes order 4 0x0a0d0d0a
same_kind Big Big = refl
same_kind Big Little = refl
same_kind Little Big = refl
same_kind Little Little = refl

abbrev behind_3 : SectionText → ℕ → ℕ → Reading BlockText
behind_3 now kind total = if kind == 6 then timed_packet 4 now total else next_other now.order total

abbrev behind_2 : SectionText → ℕ → ℕ → Reading BlockText
behind_2 now kind total = if kind == 3 then simple_packet now total else behind_3 now kind total

abbrev behind_1 : SectionText → ℕ → ℕ → Reading BlockText
behind_1 now kind total = if kind == 2 then timed_packet 2 now total else behind_2 now kind total

abbrev behind_section : SectionText → ℕ → ℕ → Reading BlockText
behind_section now kind total = if kind == 1 then next_interface now total else behind_1 now kind total

-- the parts of a block before its body is read
record IsHead (now : SectionText) (kind total : ℕ) (bytes head left : List ℕ) : Type 0 where
  parts : bytes ≡ head ++ left
  head_is : head ≡ head_bytes now.order kind total
  are : AreBytes left
  kind_low : kind < 2 ^ 32
  total_low : total < 2 ^ 32

section_block : (now : SectionText) (total : ℕ) (what : BlockText) (bytes head left rest : List ℕ)
    → IsHead now 0x0a0d0d0a total bytes head left → AreBytes head → next_section (number_bytes now.order 4 total) left ≡ Ok (what, rest)
    → IsBlockAt now what bytes rest
unfolding next_section
section_block now total what bytes head left rest h are e =
    let claimed = number_bytes now.order 4 total in
    let p = parted (section_at claimed) _ left what rest e in
    let are_claimed : AreBytes claimed =
    bytes_behind (number_bytes now.order 4 0x0a0d0d0a) claimed (subst AreBytes h.head_is are) in
    let over : p.left ≡ rest = same_rest (blocks.section p.middle) what p.left rest p.back in
    let k = section_read p.middle claimed left p.left are_claimed (number_len now.order 4 total) h.are p.front in
    let body = section_body p.middle k.minor k.size k.options in
    let head_is : head ≡ head_bytes p.middle 0x0a0d0d0a (12 + length body) =
    h.head_is ∙ ap₂ (λ (a b : List ℕ). a ++ b) (same_kind now.order p.middle) k.total in
    let front = block_bytes p.middle 0x0a0d0d0a body in
    subst (λ (w : BlockText). IsBlockAt now w bytes rest) (same_value (blocks.section p.middle) what p.left rest p.back)
    (record {
      front = front;
      block = is.section p.middle front (header k.minor k.size k.options k.body);
      parts = joined p.middle 0x0a0d0d0a (12 + length body) body head left bytes p.left h.parts head_is k.parts refl
          ∙ ap (λ (l : List ℕ). front ++ l) over;
    })

interface_block : (now : SectionText) (total : ℕ) (what : BlockText) (bytes head left rest : List ℕ)
    → IsHead now 1 total bytes head left → next_interface now total left ≡ Ok (what, rest) → IsBlockAt now what bytes rest
unfolding next_interface
interface_block now total what bytes head left rest h e =
    let p = parted (interface_at now total) _ left what rest e in
    let on = p.middle in
    let over : p.left ≡ rest = same_rest (blocks.interface on) what p.left rest p.back in
    let k = interface_read now total on left p.left h.are p.front in
    let body = interface_body now.order on.link k.reserved on.snap k.options in
    let front = block_bytes now.order 1 body in
    subst (λ (w : BlockText). IsBlockAt now w bytes rest) (same_value (blocks.interface on) what p.left rest p.back)
    (record {
      front = front;
      block =
          is.interface on k.reserved k.options k.link_low k.snap_low k.text k.few k.place
          (body_fits total body k.total_is k.even h.total_low);
      parts = joined now.order 1 total body head left bytes p.left h.parts h.head_is k.parts k.total_is
          ∙ ap (λ (l : List ℕ). front ++ l) over;
    })

-- what follows the fields of a packet
packet_parts : (order : Order) (fields front text more left : List ℕ) (tail : List ℕ) → fields ≡ front
    → left ≡ fields ++ (text ++ (more ++ tail)) → left ≡ ((front ++ text) ++ more) ++ tail
packet_parts order fields front text more left tail same parts =
    parts ∙ ap (λ (l : List ℕ). l ++ (text ++ (more ++ tail))) same ∙ sym (three_apart front text more tail)

enhanced_block : (now : SectionText) (total : ℕ) (what : BlockText) (bytes head left rest : List ℕ)
    → IsHead now 6 total bytes head left → timed_packet 4 now total left ≡ Ok (what, rest) → IsBlockAt now what bytes rest
enhanced_block now total what bytes head left rest h e =
    let order = now.order in
    let k = timed_read 4 now total what left rest h.are e in
    let number = field order 0 4 k.fields in
    let high = field order 4 4 k.fields in
    let low = field order 8 4 k.fields in
    let original = field order 16 4 k.fields in
    let fields_are : k.fields ≡ enhanced_front order number high low (length k.text) original =
    enhanced_written order k.fields k.are k.long ∙ ap (λ n. enhanced_front order number high low n original) k.text_long in
    let body = enhanced_body order number high low original k.text k.more in
    let front = enhanced_front order number high low (length k.text) original in
    let total_is : total ≡ 12 + length body =
    omega (arith, k.total_is, three_len front k.text k.more, ap length fields_are, k.long) in
    let tail = number_bytes order 4 total ++ rest in
    subst (λ (w : BlockText). IsBlockAt now w bytes rest) k.what_is
    (record {
      front = block_bytes order 6 body;
      block = is.enhanced k.on number high low original k.text k.more k.on_is (low_field order 0 4 k.fields k.are)
          (low_field order 4 4 k.fields k.are) (low_field order 8 4 k.fields k.are) (low_field order 16 4 k.fields k.are) k.few
          (body_fits total body total_is k.even h.total_low);
      parts = joined order 6 total body head left bytes rest h.parts h.head_is
          (packet_parts order k.fields front k.text k.more left tail fields_are k.parts) total_is;
    })

obsolete_block : (now : SectionText) (total : ℕ) (what : BlockText) (bytes head left rest : List ℕ)
    → IsHead now 2 total bytes head left → timed_packet 2 now total left ≡ Ok (what, rest) → IsBlockAt now what bytes rest
obsolete_block now total what bytes head left rest h e =
    let order = now.order in
    let k = timed_read 2 now total what left rest h.are e in
    let number = field order 0 2 k.fields in
    let drops = field order 2 2 k.fields in
    let high = field order 4 4 k.fields in
    let low = field order 8 4 k.fields in
    let original = field order 16 4 k.fields in
    let front = obsolete_front order number drops high low (length k.text) original in
    let fields_are : k.fields ≡ front =
    obsolete_written order k.fields k.are k.long ∙ ap (λ n. obsolete_front order number drops high low n original) k.text_long in
    let body = obsolete_body order number drops high low original k.text k.more in
    let total_is : total ≡ 12 + length body =
    omega (arith, k.total_is, three_len front k.text k.more, ap length fields_are, k.long) in
    let tail = number_bytes order 4 total ++ rest in
    subst (λ (w : BlockText). IsBlockAt now w bytes rest) k.what_is
    (record {
      front = block_bytes order 2 body;
      block = is.obsolete k.on number drops high low original k.text k.more k.on_is (low_field order 0 2 k.fields k.are)
          (low_field order 4 4 k.fields k.are) (low_field order 8 4 k.fields k.are) (low_field order 16 4 k.fields k.are) k.few
          (body_fits total body total_is k.even h.total_low);
      parts = joined order 2 total body head left bytes rest h.parts h.head_is
          (packet_parts order k.fields front k.text k.more left tail fields_are k.parts) total_is;
    })

simple_block : (now : SectionText) (total : ℕ) (what : BlockText) (bytes head left rest : List ℕ)
    → IsHead now 3 total bytes head left → simple_packet now total left ≡ Ok (what, rest) → IsBlockAt now what bytes rest
simple_block now total what bytes head left rest h e =
    let order = now.order in
    let k = simple_read now total what left rest h.are e in
    let front = number_bytes order 4 k.original in
    let body = simple_body order k.original k.text k.more in
    let total_is : total ≡ 12 + length body = omega (arith, k.total_is, three_len front k.text k.more, number_len order 4 k.original) in
    let tail = number_bytes order 4 total ++ rest in
    subst (λ (w : BlockText). IsBlockAt now w bytes rest) k.what_is
    (record {
      front = block_bytes order 3 body;
      block = is.simple k.on k.original k.text k.more k.on_is k.low k.text_long k.few (body_fits total body total_is k.even h.total_low);
      parts = joined order 3 total body head left bytes rest h.parts h.head_is
          (packet_parts order front front k.text k.more left tail refl k.parts) total_is;
    })

other_block : (now : SectionText) (kind total : ℕ) (what : BlockText) (bytes head left rest : List ℕ)
    → IsHead now kind total bytes head left → IsOther kind → next_other now.order total left ≡ Ok (what, rest)
    → IsBlockAt now what bytes rest
unfolding next_other other_at
other_block now kind total what bytes head left rest h other e =
    let order = now.order in
    let p = parted (other_at order total) _ left what rest e in
    let q = parted (room_in 0 total) _ left tt p.left p.front in
    let room = room_read 0 total q.middle left q.left q.front in
    let closing = closed_read order q.middle total q.left p.left (subst AreBytes room.same_bytes h.are) q.back in
    let over : p.left ≡ rest = same_rest blocks.other what p.left rest p.back in
    let body = closing.gone in
    let total_is : total ≡ 12 + length body = omega (arith, room.total_is, closing.long) in
    let front = block_bytes order kind body in
    subst (λ (w : BlockText). IsBlockAt now w bytes rest) (same_value blocks.other what p.left rest p.back)
    (record {
      front = front;
      block = is.other kind body other (body_fits total body total_is room.even h.total_low);
      parts = joined order kind total body head left bytes p.left h.parts h.head_is (room.same_bytes ∙ closing.parts) total_is
          ∙ ap (λ (l : List ℕ). front ++ l) over;
    })

kind_read : (now : SectionText) (kind total : ℕ) (what : BlockText) (bytes head left rest : List ℕ)
    → IsHead now kind total bytes head left → AreBytes head
    → block_of now kind total (number_bytes now.order 4 total) left ≡ Ok (what, rest) → IsBlockAt now what bytes rest
kind_read now kind total what bytes head left rest h are e =
    let P = IsBlockAt now what bytes rest in
    let at : (k : ℕ) → (kind == k) ≡ true → IsHead now k total bytes head left = λ k is.
    subst (λ n. IsHead now n total bytes head left) (eqb-true kind k is) h in
    chosen P (kind == 0x0a0d0d0a) (next_section (number_bytes now.order 4 total)) (behind_section now kind total) left rest what e
    (λ is more. section_block now total what bytes head left rest (at 0x0a0d0d0a is) are more)
    (λ n0 e1. chosen P (kind == 1) (next_interface now total) (behind_1 now kind total) left rest what e1
    (λ is more. interface_block now total what bytes head left rest (at 1 is) more)
    (λ n1 e2. chosen P (kind == 2) (timed_packet 2 now total) (behind_2 now kind total) left rest what e2
    (λ is more. obsolete_block now total what bytes head left rest (at 2 is) more)
    (λ n2 e3. chosen P (kind == 3) (simple_packet now total) (behind_3 now kind total) left rest what e3
    (λ is more. simple_block now total what bytes head left rest (at 3 is) more)
    (λ n3 e6. chosen P (kind == 6) (timed_packet 4 now total) (next_other now.order total) left rest what e6
    (λ is more. enhanced_block now total what bytes head left rest (at 6 is) more)
    (λ n6 more. other_block now kind total what bytes head left rest h
    (eqb-false _ _ n0, eqb-false _ _ n1, eqb-false _ _ n2, eqb-false _ _ n3, eqb-false _ _ n6, h.kind_low) more)))))

pub block_read : (now : SectionText) (what : BlockText) (bytes rest : List ℕ) → AreBytes bytes → block_at now bytes ≡ Ok (what, rest)
    → IsBlockAt now what bytes rest
unfolding block_at
block_read now what bytes rest are e =
    let order = now.order in
    let p = parted (next_header 8) _ bytes what rest e in
    let head = p.middle in
    let front = header_read 8 bytes head p.left (omega arith) p.front in
    let are_head : AreBytes head = bytes_front head p.left (subst AreBytes front.1 are) in
    let kind = field order 0 4 head in
    let total = field order 4 4 head in
    let head_is : head ≡ head_bytes order kind total =
    front_written order 4 head are_head (omega (arith, front.0))
    ∙ ap (λ (l : List ℕ). number_bytes order 4 kind ++ l) (last_number order 4 head are_head front.0) in
    let claimed : take 4 (drop 4 head) ≡ number_bytes order 4 total =
    ap (λ (l : List ℕ). take 4 (drop 4 l)) head_is ∙ head_claims order kind total in
    kind_read now kind total what bytes head p.left rest
    (record {
      parts = front.1;
      head_is = head_is;
      are = bytes_behind head p.left (subst AreBytes front.1 are);
      kind_low = low_field order 0 4 head are_head;
      total_low = low_field order 4 4 head are_head;
    }) are_head
    (ap (λ (c : List ℕ). block_of now kind total c p.left) (sym claimed) ∙ p.back)
