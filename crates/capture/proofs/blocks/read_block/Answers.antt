use Rattle.std.proofs.Common.{◌≢◌, refl, sym, ◌∙◌, rules, arith}
use Rattle.std.proofs.lemmas.Result.{err_from_is_err_and}
use Rattle.swim_pack.proofs.Composing.{Reads-exit, Reads-then}
use Rattle.capture.specs.Blocks.{section_text}
use Rattle.capture.specs.Pcapng.{block_at, next_section, next_interface, next_other}
use Rattle.capture.proofs.Parts.{Reads-is}
use Rattle.capture.proofs.Steps.{block-read, block-other}
use Rattle.capture.proofs.blocks.read_block.Goals as goal

pub returns-in_err-fill_header : goal.returns-in_err-fill_header
unfolding block_at
returns-in_err-fill_header g c =
    let p = err_from_is_err_and c.from_residual.result c.from_residual.ensures.1 in
    rw (p.1, p.2) (Reads-exit _ c.in_err-fill_header.ensures)

pub returns-in_err-read_section-in-168627466 : goal.returns-in_err-read_section-in-168627466
unfolding next_section
returns-in_err-read_section-in-168627466 g c =
    let p = err_from_is_err_and c.from_residual-in_err-read_section-in-168627466.result
    c.from_residual-in_err-read_section-in-168627466.ensures.1 in
    rw (p.1, p.2) (block-read (section_text c.args.section.now) 168627466 c.args.bytes.now.items _
    (sym c.u32_at.ensures ∙ c.in-168627466.is) c.in_ok-fill_header.ensures
    (Reads-exit _ c.in_err-read_section-in-168627466.ensures))

pub returns-in_ok-read_section-in-168627466 : goal.returns-in_ok-read_section-in-168627466
unfolding next_section
returns-in_ok-read_section-in-168627466 g c =
    block-read (section_text c.args.section.now) 168627466 c.args.bytes.now.items _
    (sym c.u32_at.ensures ∙ c.in-168627466.is) c.in_ok-fill_header.ensures
    (Reads-then _ c.in_ok-read_section-in-168627466.ensures (Reads-is _ _ refl))

pub returns-in_err-read_interface-in-1 : goal.returns-in_err-read_interface-in-1
unfolding next_interface
returns-in_err-read_interface-in-1 g c =
    let p = err_from_is_err_and c.from_residual-in_err-read_interface-in-1.result c.from_residual-in_err-read_interface-in-1.ensures.1 in
    rw (p.1, p.2) (block-read (section_text c.args.section.now) 1 c.read_interface.new.bytes.items _
    (sym c.u32_at.ensures ∙ c.in-1.is) c.in_ok-fill_header.ensures
    (Reads-exit _ (rw c.u32_at-total.ensures at c.in_err-read_interface-in-1.ensures)))

pub returns-in_ok-read_interface-in-1 : goal.returns-in_ok-read_interface-in-1
unfolding next_interface
returns-in_ok-read_interface-in-1 g c =
    block-read (section_text c.args.section.now) 1 c.read_interface.new.bytes.items _
    (sym c.u32_at.ensures ∙ c.in-1.is) c.in_ok-fill_header.ensures
    (Reads-then _ (rw c.u32_at-total.ensures at c.in_ok-read_interface-in-1.ensures)
    (Reads-is _ _ refl))

pub returns-in-2 : goal.returns-in-2
returns-in-2 g c =
    block-read (section_text c.args.section.now) 2 c.read_obsolete.new.bytes.items _
    (sym c.u32_at.ensures ∙ c.in-2.is) c.in_ok-fill_header.ensures
    (rw c.u32_at-total.ensures at c.read_obsolete.ensures)

pub returns-in-3 : goal.returns-in-3
returns-in-3 g c =
    block-read (section_text c.args.section.now) 3 c.read_simple.new.bytes.items _
    (sym c.u32_at.ensures ∙ c.in-3.is) c.in_ok-fill_header.ensures
    (rw c.u32_at-total.ensures at c.read_simple.ensures)

pub returns-in-6 : goal.returns-in-6
returns-in-6 g c =
    block-read (section_text c.args.section.now) 6 c.read_enhanced.new.bytes.items _
    (sym c.u32_at.ensures ∙ c.in-6.is) c.in_ok-fill_header.ensures
    (rw c.u32_at-total.ensures at c.read_enhanced.ensures)

pub returns-in_err-read_other-in_default : goal.returns-in_err-read_other-in_default
unfolding next_other
returns-in_err-read_other-in_default g c =
    let p = err_from_is_err_and c.from_residual-in_err-read_other-in_default.result
    c.from_residual-in_err-read_other-in_default.ensures.1 in
    let n0 : c.u32_at.result ≢ 168627466 = first_of (search rules, omega arith) in
    let n1 : c.u32_at.result ≢ 1 = first_of (search rules, omega arith) in
    let n2 : c.u32_at.result ≢ 2 = first_of (search rules, omega arith) in
    let n3 : c.u32_at.result ≢ 3 = first_of (search rules, omega arith) in
    let n4 : c.u32_at.result ≢ 6 = first_of (search rules, omega arith) in
    rw (p.1, p.2) (block-read (section_text c.args.section.now) c.u32_at.result c.args.bytes.now.items _
    (sym c.u32_at.ensures) c.in_ok-fill_header.ensures
    (block-other (section_text c.args.section.now) c.u32_at.result _ _ c.args.bytes.now.items _ n0 n1
    n2 n3 n4 (Reads-exit _ (rw c.u32_at-total.ensures at c.in_err-read_other-in_default.ensures))))

pub returns-in_ok-read_other-in_default : goal.returns-in_ok-read_other-in_default
unfolding next_other
returns-in_ok-read_other-in_default g c =
    let n0 : c.u32_at.result ≢ 168627466 = first_of (search rules, omega arith) in
    let n1 : c.u32_at.result ≢ 1 = first_of (search rules, omega arith) in
    let n2 : c.u32_at.result ≢ 2 = first_of (search rules, omega arith) in
    let n3 : c.u32_at.result ≢ 3 = first_of (search rules, omega arith) in
    let n4 : c.u32_at.result ≢ 6 = first_of (search rules, omega arith) in
    (block-read (section_text c.args.section.now) c.u32_at.result c.args.bytes.now.items _
    (sym c.u32_at.ensures) c.in_ok-fill_header.ensures
    (block-other (section_text c.args.section.now) c.u32_at.result _ _ c.args.bytes.now.items _ n0 n1
    n2 n3 n4 (Reads-then _ (rw c.u32_at-total.ensures at c.in_ok-read_other-in_default.ensures)
    (Reads-is _ _ refl))))
