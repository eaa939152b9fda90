use Rattle.std.proofs.Common.{◌≡◌, ◌<◌, ◌+◌, ◌-◌, ◌∙◌, [], sym, ap, subst, length, arith}
use borrow.Author.Tests.{eqb-false}
use Rattle.std.proofs.lemmas.List.{length-map}
use Rattle.std.proofs.lemmas.List.Elements.{All-get_or}
use Rattle.tiered_vec.specs.Sound.{shape}
use Rattle.tiered_vec.specs.Tiers.{IsBlock, IsGap, IsOpened, block_size, half_size, block_at, cut, index_of}
use Rattle.tiered_vec.proofs.Shapes.{block_read}
use Rattle.tiered_vec.proofs.Flat.{opened-lower, opened-upper, load-is_cut}
use Rattle.tiered_vec.proofs.blocks.open.Goals as goal

pub returns-then-place-le-HALF-clause-ok : goal.returns-then-place-le-HALF-clause-ok
unfolding index_of
returns-then-place-le-HALF-clause-ok g c =
    let bs = c.args.blocks.now.items in
    let s = shape bs in
    let k = c.place.inside.block in
    let gap = subst (IsGap s) (sym c.place.view_is) c.requires.gap in
    let long = length-map bs (λ b. b.items) in
    let some = eqb-false c.args.blocks.now.len 0 (sym c.is_empty.ensures ∙ c.if-is_empty.false) in
    let h : k < length s = omega (arith, gap.in_block, some, long, c.args.blocks.now.ok.0) in
    let fits = All-get_or IsBlock s k [] h c.requires.each in
    let read = block_read bs k c.index.result.now (omega (arith, h, long)) c.index.ensures in
    let full : length (block_at s k) ≡ block_size = omega (arith, ap length read, fits.fits, c.len.ensures, c.index.result.now.ok.0) in
    subst (λ q. IsOpened s (shape c.split.new.blocks.items) (index_of s q) q) c.place.view_is
    (opened-lower s (shape c.split.new.blocks.items) k h full c.requires.each
    (subst (λ u. shape c.split.new.blocks.items ≡ cut u k) (ap shape c.in_ok-make_spares-2.ensures.items) c.split.ensures.shape)
    c.place.inside.at (omega arith))

pub returns-then-place-le-HALF-clause-room : goal.returns-then-place-le-HALF-clause-room
returns-then-place-le-HALF-clause-room g c =
    let bs = c.args.blocks.now.items in
    let s = shape bs in
    let k = c.place.inside.block in
    let gap = subst (IsGap s) (sym c.place.view_is) c.requires.gap in
    let long = length-map bs (λ b. b.items) in
    let some = eqb-false c.args.blocks.now.len 0 (sym c.is_empty.ensures ∙ c.if-is_empty.false) in
    let h : k < length s = omega (arith, gap.in_block, some, long, c.args.blocks.now.ok.0) in
    let fits = All-get_or IsBlock s k [] h c.requires.each in
    let read = block_read bs k c.index.result.now (omega (arith, h, long)) c.index.ensures in
    let full : length (block_at s k) ≡ block_size = omega (arith, ap length read, fits.fits, c.len.ensures, c.index.result.now.ok.0) in
    let is = subst (λ u. shape c.split.new.blocks.items ≡ cut u k) (ap shape c.in_ok-make_spares-2.ensures.items) c.split.ensures.shape in
    omega (
      arith,
      load-is_cut s (shape c.split.new.blocks.items) k h full c.requires.each is,
      c.split.ensures.spares,
      c.in_ok-make_spares-2.ensures.more,
    )

pub returns-clause-ok : goal.returns-clause-ok
unfolding index_of
returns-clause-ok g c =
    let bs = c.args.blocks.now.items in
    let s = shape bs in
    let k = c.place.inside.block in
    let gap = subst (IsGap s) (sym c.place.view_is) c.requires.gap in
    let long = length-map bs (λ b. b.items) in
    let some = eqb-false c.args.blocks.now.len 0 (sym c.is_empty.ensures ∙ c.if-is_empty.false) in
    let h : k < length s = omega (arith, gap.in_block, some, long, c.args.blocks.now.ok.0) in
    let fits = All-get_or IsBlock s k [] h c.requires.each in
    let read = block_read bs k c.index.result.now (omega (arith, h, long)) c.index.ensures in
    let full : length (block_at s k) ≡ block_size = omega (arith, ap length read, fits.fits, c.len.ensures, c.index.result.now.ok.0) in
    let is = subst (λ u. shape c.split.new.blocks.items ≡ cut u k) (ap shape c.in_ok-make_spares-2.ensures.items) c.split.ensures.shape in
    subst (λ q. IsOpened s (shape c.split.new.blocks.items) (index_of s q)
    (record { block = k + 1; at = c.place.inside.at - half_size })) c.place.view_is
    (opened-upper s (shape c.split.new.blocks.items) k h full c.requires.each is c.place.inside.at
    (omega arith) (omega (arith, gap.in_range, full)))

pub returns-clause-room : goal.returns-clause-room
returns-clause-room g c =
    let bs = c.args.blocks.now.items in
    let s = shape bs in
    let k = c.place.inside.block in
    let gap = subst (IsGap s) (sym c.place.view_is) c.requires.gap in
    let long = length-map bs (λ b. b.items) in
    let some = eqb-false c.args.blocks.now.len 0 (sym c.is_empty.ensures ∙ c.if-is_empty.false) in
    let h : k < length s = omega (arith, gap.in_block, some, long, c.args.blocks.now.ok.0) in
    let fits = All-get_or IsBlock s k [] h c.requires.each in
    let read = block_read bs k c.index.result.now (omega (arith, h, long)) c.index.ensures in
    let full : length (block_at s k) ≡ block_size = omega (arith, ap length read, fits.fits, c.len.ensures, c.index.result.now.ok.0) in
    let is = subst (λ u. shape c.split.new.blocks.items ≡ cut u k) (ap shape c.in_ok-make_spares-2.ensures.items) c.split.ensures.shape in
    omega (
      arith,
      load-is_cut s (shape c.split.new.blocks.items) k h full c.requires.each is,
      c.split.ensures.spares,
      c.in_ok-make_spares-2.ensures.more,
    )
