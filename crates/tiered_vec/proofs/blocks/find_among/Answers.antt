use Rattle.std.proofs.Common.{◌≡◌, ◌<◌, ◌+◌, ◌-◌, ◌/◌, ◌∙◌, sym, ap, subst, length, arith, HoldsAt}
use borrow.Author.Rules.{of_calls}
use Rattle.std.proofs.lemmas.List.{length-map}
use Rattle.std.specs.declared.cmp.Ordering.TheVariants.{Less, Equal, Greater}
use Rattle.std.specs.List.Sorted.{IsNonDecreasingBy, IsPartitionPoint}
use Rattle.std.specs.Ordering.{is_gt, ordering_index}
use Rattle.tiered_vec.specs.Sound.{shape}
use Rattle.tiered_vec.specs.Tiers.{index_of}
use Rattle.tiered_vec.proofs.Shapes.{block_read, block_good}
use Rattle.tiered_vec.proofs.Flat.{first_of, block_within}
use Rattle.tiered_vec.proofs.Searching.{Narrowed, Narrowed-lower, Narrowed-upper, answers_next, found_in_block, gap_among}
use Rattle.tiered_vec.proofs.blocks.find_among.Goals as goal

pub index-requires : goal.index-requires
index-requires g c =
    let b = c.index-blocks-mid.result in
    let good =
    block_good c.args.blocks.now (c.loop-high.low + (c.loop-high.high - c.loop-high.low) / 2) b
    (omega (arith, c.loop-high.invariant.some, c.loop-high.invariant.within)) c.index-blocks-mid.is c.requires.each in
    omega (arith, good.filled, b.ok.0)

pub loop-high-preserved-then-is_gt : goal.loop-high-preserved-then-is_gt
loop-high-preserved-then-is_gt g c =
    let bs = c.args.blocks.now in
    let b = c.index-blocks-mid.result in
    let low = c.loop-high.low in
    let high = c.loop-high.high in
    let mid = low + (high - low) / 2 in
    let h : mid < length bs = omega (arith, c.loop-high.invariant.some, c.loop-high.invariant.within) in
    let good = block_good bs mid b h c.index-blocks-mid.is c.requires.each in
    let read =
    first_of (shape bs) mid b.items c.index.result.now (omega (arith, h, length-map bs (λ v. v.items)))
    (block_read bs mid b h c.index-blocks-mid.is) good.filled c.index.ensures in
    record {
      some = omega (arith, c.loop-high-test.true);
      within = omega (arith, h);
      callable = search of_calls;
      narrowed = λ ord k.
          let i = c.loop-high.invariant.narrowed ord k in
          let n = answers_next g.F.FnMut _ _ _ _ _ c.f.ensures i.0 in
          (n.1, Narrowed-lower ord (shape bs) low mid high c.index.result.now i.1 read (ap is_gt (sym n.0) ∙ sym c.if-is_gt.ensures));
    }

pub loop-high-preserved : goal.loop-high-preserved
loop-high-preserved g c =
    let bs = c.args.blocks.now in
    let b = c.index-blocks-mid.result in
    let low = c.loop-high.low in
    let high = c.loop-high.high in
    let mid = low + (high - low) / 2 in
    let h : mid < length bs = omega (arith, c.loop-high.invariant.some, c.loop-high.invariant.within) in
    let good = block_good bs mid b h c.index-blocks-mid.is c.requires.each in
    let read =
    first_of (shape bs) mid b.items c.index.result.now (omega (arith, h, length-map bs (λ v. v.items)))
    (block_read bs mid b h c.index-blocks-mid.is) good.filled c.index.ensures in
    record {
      some = omega (arith, c.loop-high-test.true);
      within = omega (arith, c.loop-high.invariant.within);
      callable = search of_calls;
      narrowed = λ ord k.
          let i = c.loop-high.invariant.narrowed ord k in
          let n = answers_next g.F.FnMut _ _ _ _ _ c.f.ensures i.0 in
          (n.1, Narrowed-upper ord (shape bs) low mid high c.index.result.now i.1 read (ap is_gt (sym n.0) ∙ sym c.if-is_gt.ensures));
    }

pub returns-in-Ok-clause-position : goal.returns-in-Ok-clause-position
unfolding index_of
returns-in-Ok-clause-position g c = λ ord k.
    let bs = c.args.blocks.now in
    let low = c.loop-high.low in
    let b = c.index-blocks-low.result in
    let i = c.loop-high.invariant.narrowed ord k in
    let h : low < length bs = omega (arith, c.loop-high.invariant.some, c.loop-high.invariant.within) in
    let read = c.deref.ensures.value ∙ block_read bs low b h c.index-blocks-low.is in
    found_in_block ord (shape bs) low c.in-Ok.at (omega (arith, h, length-map bs (λ v. v.items)))
    (omega (arith, ap length read, c.in-Ok.ensures.bound))
    (subst (λ xs. HoldsAt (λ y. ord y ≡ Equal) xs c.in-Ok.at) read (c.in-Ok.ensures.position ord i.0))

pub returns-in-Err-clause-position : goal.returns-in-Err-clause-position
unfolding index_of
returns-in-Err-clause-position g c = λ ord k up.
    let bs = c.args.blocks.now in
    let low = c.loop-high.low in
    let b = c.index-blocks-low.result in
    let i = c.loop-high.invariant.narrowed ord k in
    let h : low < length bs = omega (arith, c.loop-high.invariant.some, c.loop-high.invariant.within) in
    let h' : low < length (shape bs) = omega (arith, h, length-map bs (λ v. v.items)) in
    let good = block_good bs low b h c.index-blocks-low.is c.requires.each in
    let is = block_read bs low b h c.index-blocks-low.is in
    let read = c.deref.ensures.value ∙ is in
    let next : c.loop-high.high ≡ low + 1 = omega (arith, c.loop-high-test.false, c.loop-high.invariant.some) in
    gap_among ord (shape bs) low c.in-Err.at h' (omega (arith, ap length read, c.in-Err.ensures.bound))
    (omega (arith, good.filled, ap length is))
    (subst (Narrowed ord (shape bs) low) next i.1)
    (subst
    (λ xs. IsNonDecreasingBy (λ y. ordering_index (ord y)) xs → IsPartitionPoint (λ y. ord y ≡ Less) (λ y. ord y ≡ Greater) xs c.in-Err.at)
    read (c.in-Err.ensures.position ord i.0))
    up (block_within (shape bs) low h')
