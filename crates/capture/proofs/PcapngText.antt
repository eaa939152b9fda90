-- Captures of pcapng are read back.
use Rattle.std.proofs.Common.{◌≡◌, ℕ, suc, ◌+◌, ◌^◌, ◌<◌, false, eqb, List, [], ◌∷◌, ◌++◌}
use Rattle.std.proofs.Common.{length, take, drop, refl, ◌∙◌, append_assoc, length-append, arith}
use Rattle.std.specs.Prelude.{Ok}
use Rattle.swim_pack.specs.Ends.{Source}
use Rattle.std.proofs.lemmas.Bool.{ne_eqb}
use Rattle.capture.specs.declared.order.Order.{Order}
use Rattle.capture.specs.declared.order.Order.TheVariants.{Big, Little}
use Rattle.capture.specs.Captures.{CaptureState, behind_block, begin_at, pcapng_file, step_at}
use Rattle.capture.specs.Captures.CaptureState.{pcapng}
use Rattle.capture.specs.Clock.{default_clock}
use Rattle.capture.specs.Pcap.{RecordText}
use Rattle.capture.specs.PcapText.{number_bytes}
use Rattle.capture.specs.Pcapng.{BlockText, BlockText as blocks, SectionText}
use Rattle.capture.specs.Pcapng.{next_section, next_interface, block_of, block_at}
use Rattle.capture.specs.PcapngText.{block_bytes, section_body, IsSection, interface_body, enhanced_body, obsolete_body}
use Rattle.capture.specs.PcapngText.{simple_body, IsBlock, IsBlock as is, BlocksText, PcapngText}
use Rattle.capture.specs.PcapngText.BlocksText.{nothing, block}
use Rattle.capture.specs.PcapngText.PcapngText.{file}
use Rattle.capture.specs.PcapngText.IsSection.{header}
use Rattle.capture.specs.Taking.{field, next_header}
use Rattle.capture.specs.Whole.{ReadsRecords, ReadsWhole, holding}
use Rattle.capture.proofs.NumberBytes.{number_back, number_len}
use Rattle.capture.proofs.Options.{options_back}
use Rattle.capture.proofs.Parts.{next_part-whole}
use Rattle.capture.proofs.PcapText.{header_whole}
use Rattle.capture.proofs.Whole.{Reached, here, skip, stop, find, begun}
use Rattle.capture.proofs.PcapngParts.{section_len, section_back, described_front, described_len, interface_back, three_apart, three_len}
use Rattle.capture.proofs.PcapngParts.{enhanced_front, enhanced_is, obsolete_front, obsolete_is, timed_back, simple_back, other_back}

-- ---- a block

abbrev pub head_bytes : Order → ℕ → ℕ → List ℕ
head_bytes order kind total = number_bytes order 4 kind ++ number_bytes order 4 total

head_len : (order : Order) (kind total : ℕ) → length (head_bytes order kind total) ≡ 8
head_len Big kind total = refl
head_len Little kind total = refl

head_kind : (order : Order) (kind total : ℕ) → kind < 2 ^ 32 → field order 0 4 (head_bytes order kind total) ≡ kind
head_kind Big kind total low = number_back Big 4 kind (number_bytes Big 4 total) low
head_kind Little kind total low = number_back Little 4 kind (number_bytes Little 4 total) low

head_total : (order : Order) (kind total : ℕ) → total < 2 ^ 32 → field order 4 4 (head_bytes order kind total) ≡ total
head_total Big kind total low = number_back Big 4 total [] low
head_total Little kind total low = number_back Little 4 total [] low

pub head_claims : (order : Order) (kind total : ℕ) → take 4 (drop 4 (head_bytes order kind total)) ≡ number_bytes order 4 total
head_claims Big kind total = refl
head_claims Little kind total = refl

-- the type of a section header is the same in both orders
pub section_kind : (at order : Order) (total : ℕ) → field at 0 4 (head_bytes order 0x0a0d0d0a total) ≡ 0x0a0d0d0a
section_kind Big Big total = refl
section_kind Big Little total = refl
section_kind Little Big total = refl
section_kind Little Little total = refl

abbrev tail_bytes : Order → List ℕ → List ℕ → List ℕ
tail_bytes order body more = body ++ (number_bytes order 4 (12 + length body) ++ more)

block_head : (now : SectionText) (kind : ℕ) (body more : List ℕ) → kind < 2 ^ 32 → 12 + length body < 2 ^ 32
    → block_at now (block_bytes now.order kind body ++ more)
    ≡ block_of now kind (12 + length body) (number_bytes now.order 4 (12 + length body)) (tail_bytes now.order body more)
unfolding block_at
block_head now kind body more low fits =
    let order = now.order in
    let total = 12 + length body in
    let head = head_bytes order kind total in
    rw (
      three_apart head body (number_bytes order 4 total) more,
      header_whole 8 head (tail_bytes order body more) (head_len order kind total) (omega arith),
      head_kind order kind total low,
      head_total order kind total fits,
      head_claims order kind total,
    ) refl

section_head : (now : SectionText) (order : Order) (body more : List ℕ)
    → block_at now (block_bytes order 0x0a0d0d0a body ++ more)
    ≡ next_section (number_bytes order 4 (12 + length body)) (tail_bytes order body more)
unfolding block_at
section_head now order body more =
    let total = 12 + length body in
    let head = head_bytes order 0x0a0d0d0a total in
    rw (
      three_apart head body (number_bytes order 4 total) more,
      header_whole 8 head (tail_bytes order body more) (head_len order 0x0a0d0d0a total) (omega arith),
      section_kind now.order order total,
      head_claims order 0x0a0d0d0a total,
    ) refl

block_back : (now : SectionText) (bytes more : List ℕ) (what : BlockText) → IsBlock now bytes what
    → block_at now (bytes ++ more) ≡ Ok (what, more)
unfolding next_section next_interface
block_back now bytes more what (is.section order b (header minor size options body)) =
    let whole = section_body order minor size options in
    let long = section_len order minor size options in
    section_head now order whole more
    ∙ rw (section_back order minor size options more (12 + length whole) (omega (arith, long)) (omega (arith, body.0)) body.1) refl
block_back now bytes more what (is.interface on reserved options link_low snap_low text few place body) =
    let front = described_front now.order on.link reserved on.snap in
    let whole = interface_body now.order on.link reserved on.snap options in
    let long : length whole ≡ 8 + length options =
    omega (arith, length-append front options, described_len now.order on.link reserved on.snap) in
    let clock_is = options_back now.order default_clock on.clock options text (suc (length options)) (omega arith) in
    block_head now 1 whole more (omega arith) body.1
    ∙ rw (interface_back now on reserved (12 + length whole) options more link_low snap_low clock_is few place
    (omega (arith, long)) (omega (arith, body.0)) body.1) refl
block_back now bytes more what (is.enhanced on number high low original captured rest on_is hn hh hl ho few body) =
    let front = enhanced_front now.order number high low (length captured) original in
    let whole = enhanced_body now.order number high low original captured rest in
    let k = enhanced_is now.order number high low (length captured) original hn hh hl (omega (arith, few)) ho in
    block_head now 6 whole more (omega arith) body.1
    ∙ timed_back 4 now on number high low original (12 + length whole) front captured rest more k on_is few
    (omega (arith, three_len front captured rest, k.long)) (omega (arith, body.0)) body.1
block_back now bytes more what (is.obsolete on number drops high low original captured rest on_is hn hh hl ho few body) =
    let front = obsolete_front now.order number drops high low (length captured) original in
    let whole = obsolete_body now.order number drops high low original captured rest in
    let k = obsolete_is now.order number drops high low (length captured) original hn hh hl (omega (arith, few)) ho in
    block_head now 2 whole more (omega arith) body.1
    ∙ timed_back 2 now on number high low original (12 + length whole) front captured rest more k on_is few
    (omega (arith, three_len front captured rest, k.long)) (omega (arith, body.0)) body.1
block_back now bytes more what (is.simple on original captured rest on_is low len_is few body) =
    let whole = simple_body now.order original captured rest in
    block_head now 3 whole more (omega arith) body.1
    ∙ simple_back now on original (12 + length whole) captured rest more on_is low len_is few
    (omega (arith, three_len (number_bytes now.order 4 original) captured rest, number_len now.order 4 original))
    (omega (arith, body.0)) body.1
block_back now bytes more what (is.other kind whole k body) =
    let e0 : eqb kind 0x0a0d0d0a ≡ false = ne_eqb _ _ k.0 in
    let e1 : eqb kind 1 ≡ false = ne_eqb _ _ k.1 in
    let e2 : eqb kind 2 ≡ false = ne_eqb _ _ k.2 in
    let e3 : eqb kind 3 ≡ false = ne_eqb _ _ k.3 in
    let e6 : eqb kind 6 ≡ false = ne_eqb _ _ k.4 in
    block_head now kind whole more k.5 body.1
    ∙ rw (e0, e1, e2, e3, e6) (other_back now.order (12 + length whole) whole more refl (omega (arith, body.0)) body.1)

-- ---- the whole capture

step_back : (now : SectionText) (bytes more : List ℕ) (what : BlockText) → IsBlock now bytes what
    → step_at (pcapng now) (bytes ++ more) ≡ Ok (behind_block now what, more)
unfolding step_at
step_back now bytes more what is = rw (block_back now bytes more what is) refl

blocks_read : (start : CaptureState) (old : Source) (now : SectionText) (bytes : List ℕ) (records : List RecordText)
    → Reached start old (pcapng now) bytes → BlocksText now bytes records → ReadsRecords start old records
unfolding step_at block_at next_header
blocks_read start old last bytes records at (nothing now) = stop (pcapng now) at refl
blocks_read start old last bytes records at (block now (blocks.section order) front more later is text) =
    let next : SectionText = record { order = order; interfaces = [] } in
    blocks_read start old next more later
    (skip (pcapng now) (pcapng next) (front ++ more) more at (step_back now front more (blocks.section order) is)) text
blocks_read start old last bytes records at (block now (blocks.interface on) front more later is text) =
    let next : SectionText = record now { interfaces = now.interfaces ++ (on ∷ []) } in
    blocks_read start old next more later
    (skip (pcapng now) (pcapng next) (front ++ more) more at (step_back now front more (blocks.interface on) is)) text
blocks_read start old last bytes records at (block now (blocks.packet head captured) front more later is text) =
    find (pcapng now) (pcapng now) (front ++ more) more (head, captured) at (step_back now front more (blocks.packet head captured) is)
    (blocks_read (pcapng now) (holding more) now more later (here (pcapng now) more) text)
blocks_read start old last bytes records at (block now blocks.other front more later is text) =
    blocks_read start old now more later
    (skip (pcapng now) (pcapng now) (front ++ more) more at (step_back now front more blocks.other is)) text

-- the first section
first_back : (order : Order) (bytes more : List ℕ) → IsSection order bytes
    → begin_at (bytes ++ more) ≡ Ok (pcapng (record { order = order; interfaces = [] }), more)
unfolding begin_at pcapng_file
first_back order bytes more (header minor size options body) =
    let whole = section_body order minor size options in
    let total = 12 + length whole in
    let kind = number_bytes order 4 0x0a0d0d0a in
    let claimed = number_bytes order 4 total in
    let long = section_len order minor size options in
    let behind = tail_bytes order whole more in
    rw (
      three_apart (head_bytes order 0x0a0d0d0a total) whole claimed more,
      append_assoc kind claimed behind,
      header_whole 4 kind (claimed ++ behind) (number_len order 4 0x0a0d0d0a) (omega arith),
      kind_is order,
      next_part-whole 4 claimed behind (number_len order 4 total),
      section_back order minor size options more total (omega (arith, long)) (omega (arith, body.0)) body.1,
    ) refl
  where
    kind_is : (order : Order) → field Big 0 4 (number_bytes order 4 0x0a0d0d0a) ≡ 0x0a0d0d0a
    kind_is Big = refl
    kind_is Little = refl

pub pcapng_back : (bytes : List ℕ) (records : List RecordText) → PcapngText bytes records → ReadsWhole bytes records
pcapng_back bytes records (file order front more later is text) =
    let now : SectionText = record { order = order; interfaces = [] } in
    begun (pcapng now) (front ++ more) more (first_back order front more is)
    (blocks_read (pcapng now) (holding more) now more later (here (pcapng now) more) text)
