use Rattle.std.proofs.Common.{◌≡◌, ◌<◌, ◌+◌, ◌∙◌, refl, sym, ap, subst, get_or, length, arith}
use mathlib.Core.Bool.{false≢true}
use Rattle.std.proofs.lemmas.Map.Lookups.{exact_bytes}
use Rattle.std.specs.declared.cmp.Ordering.TheVariants.{Greater}
use Rattle.tiered_vec.specs.Tiers.{items, IsPlaceOf}
use Rattle.swim_claim.specs.Claim.{name_of}
use Rattle.swim_table.proofs.Place.{turned}
use Rattle.swim_table.proofs.Covering.{so_far_lacks, so_far_more, so_far_covers, so_far_covers_not, so_far_ended}
use Rattle.swim_table.proofs.comparing.is_covered.Goals as goal
use Rattle.swim_table.proofs.comparing.is_covered.Goals.{then-loop-i-test+else-j-len, else-loop-i-test}

pub returns-in-Less : goal.returns-in-Less
returns-in-Less c =
    let A = items c.args.first.now in
    let B = items c.args.second.now in
    let x = c.get_at-mine.result.now in
    let y = c.get_at-theirs.result.now in
    let h : c.loop-i.i < length A = omega (arith, c.loop-i-test.true, c.len.ensures.len) in
    let h' : c.loop-i.j < length B = omega (arith, c.if-j-len.true, c.len-in-loop-i.ensures.len) in
    let read : x ≡ get_or A c.loop-i.i x = c.get_at-mine.ensures ∙ ap (λ n. get_or A n x) c.loop-i.invariant.own.index in
    let read' : y ≡ get_or B c.loop-i.j y = c.get_at-theirs.ensures ∙ ap (λ n. get_or B n y) c.loop-i.invariant.other.index in
    so_far_lacks A B c.requires.first c.requires.second c.loop-i.i c.loop-i.j x y h h' read read' c.loop-i.invariant.covered
    (sym c.in-Less.ensures)

pub covers-requires : goal.covers-requires
covers-requires c = sym (exact_bytes (name_of c.get_at-mine.result.now.top)
    (name_of c.get_at-theirs.result.now.top) (sym c.in-Equal.ensures))

pub returns-then-not-covers : goal.returns-then-not-covers
returns-then-not-covers c =
    let A = items c.args.first.now in
    let B = items c.args.second.now in
    let x = c.get_at-mine.result.now in
    let y = c.get_at-theirs.result.now in
    let h : c.loop-i.i < length A = omega (arith, c.loop-i-test.true, c.len.ensures.len) in
    let h' : c.loop-i.j < length B = omega (arith, c.if-j-len.true, c.len-in-loop-i.ensures.len) in
    let read : x ≡ get_or A c.loop-i.i x = c.get_at-mine.ensures ∙ ap (λ n. get_or A n x) c.loop-i.invariant.own.index in
    let read' : y ≡ get_or B c.loop-i.j y = c.get_at-theirs.ensures ∙ ap (λ n. get_or B n y) c.loop-i.invariant.other.index in
    so_far_covers_not A B c.requires.first c.requires.second c.loop-i.i c.loop-i.j x y h h' read read' c.loop-i.invariant.covered
    (λ is. false≢true ((rw c.if-not-covers.true at c.covers.ensures).1 is))
    (exact_bytes (name_of x.top) (name_of y.top) (sym c.in-Equal.ensures))

pub loop-i-preserved-in-Equal : goal.loop-i-preserved-in-Equal
loop-i-preserved-in-Equal c =
    let A = items c.args.first.now in
    let B = items c.args.second.now in
    let x = c.get_at-mine.result.now in
    let y = c.get_at-theirs.result.now in
    let h : c.loop-i.i < length A = omega (arith, c.loop-i-test.true, c.len.ensures.len) in
    let h' : c.loop-i.j < length B = omega (arith, c.if-j-len.true, c.len-in-loop-i.ensures.len) in
    let read : x ≡ get_or A c.loop-i.i x = c.get_at-mine.ensures ∙ ap (λ n. get_or A n x) c.loop-i.invariant.own.index in
    let read' : y ≡ get_or B c.loop-i.j y = c.get_at-theirs.ensures ∙ ap (λ n. get_or B n y) c.loop-i.invariant.other.index in
    record {
      covered =
          so_far_covers A B c.requires.first c.requires.second c.loop-i.i c.loop-i.j x y h h' read read' c.loop-i.invariant.covered
          ((rw c.if-not-covers.false at c.covers.ensures).0 refl) (exact_bytes (name_of x.top) (name_of y.top) (sym c.in-Equal.ensures));
      own = subst (λ n. IsPlaceOf c.args.first.now.blocks (n + 1) c.after-own.result) c.loop-i.invariant.own.index c.after-own.ensures;
      other = subst (λ n. IsPlaceOf c.args.second.now.blocks
          (n + 1) c.after-other.result) c.loop-i.invariant.other.index c.after-other.ensures;
    }

pub loop-i-preserved : goal.loop-i-preserved
loop-i-preserved c =
    let A = items c.args.first.now in
    let B = items c.args.second.now in
    let x = c.get_at-mine.result.now in
    let y = c.get_at-theirs.result.now in
    let h : c.loop-i.i < length A = omega (arith, c.loop-i-test.true, c.len.ensures.len) in
    let h' : c.loop-i.j < length B = omega (arith, c.if-j-len.true, c.len-in-loop-i.ensures.len) in
    let read : x ≡ get_or A c.loop-i.i x = c.get_at-mine.ensures ∙ ap (λ n. get_or A n x) c.loop-i.invariant.own.index in
    let read' : y ≡ get_or B c.loop-i.j y = c.get_at-theirs.ensures ∙ ap (λ n. get_or B n y) c.loop-i.invariant.other.index in
    let greater = sym c.in-Greater.ensures in
    record {
      covered =
          so_far_more A B c.requires.first c.requires.second c.loop-i.i c.loop-i.j x y h h' read read' c.loop-i.invariant.covered
          (turned (name_of x.top) (name_of y.top) Greater greater);
      own = c.loop-i.invariant.own;
      other =
          subst (λ n. IsPlaceOf c.args.second.now.blocks (n + 1) c.after-other-in-Greater.result)
          c.loop-i.invariant.other.index c.after-other-in-Greater.ensures;
    }

pub returns : goal.returns
returns c =
    let A = items c.args.first.now in
    let B = items c.args.second.now in
    rw c.len-2.ensures.len (
    so_far_ended A B c.loop-i.i c.loop-i.j c.loop-i.invariant.covered (elim c.loop-i-test.branch [
      | then-loop-i-test+else-j-len w ↦ λ before. omega (arith, w.if-j-len.false, w.len-in-loop-i.ensures.len)
      | else-loop-i-test w ↦ λ before. absurd (omega (arith, w.loop-i-test.false, c.len.ensures.len))
    ]))
