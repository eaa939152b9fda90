use Rattle.std.proofs.Common.{◌≡◌, ◌≤◌, ◌<◌, sym, refl, ◌∙◌, ap, arith}
use Rattle.std.specs.Prelude.{Some, None, find, fold}
use Rattle.std.specs.Option.{option_copied}
use Rattle.capture.specs.Flows.{placed, end_of, covers, closer}
use Rattle.capture.proofs.Covering.{covers_low, covers_high, covers_below, covers_behind, found_covers}
use Rattle.capture.proofs.Saying.{next_found_cut, next_fresh, next_none}
use Rattle.capture.proofs.piece.stretch.Goals as goal

pub until_next-requires-clause-begun : goal.until_next-requires-clause-begun
until_next-requires-clause-begun c =
    let here = c.args.here in
    let piece = c.in-Some.piece.now in
    let found : find (covers here) c.args.pieces.now ≡ Some piece = sym c.in-Some.ensures in
    rw c.at.ensures (covers_low here piece (found_covers here c.args.pieces.now piece found))

pub until_next-requires-clause-inside : goal.until_next-requires-clause-inside
until_next-requires-clause-inside c =
    let here = c.args.here in
    let piece = c.in-Some.piece.now in
    let found : find (covers here) c.args.pieces.now ≡ Some piece = sym c.in-Some.ensures in
    rw (c.at.ensures, c.bytes.ensures.is) (covers_high here piece (found_covers here c.args.pieces.now piece found))

pub returns-in-Some-clause-some : goal.returns-in-Some-clause-some
returns-in-Some-clause-some c =
    let piece = c.in-Some.piece.now in
    let found : find (covers c.args.here) c.args.pieces.now ≡ Some piece = sym c.in-Some.ensures in
    next_found_cut c.args.pieces.now (placed c.args.at c.args.bytes.now) piece c.args.here
    c.at.result c.bytes.result.now c.until_next.result.now found c.bytes.ensures.small c.at.ensures c.bytes.ensures.is c.until_next.ensures

pub returns-then-here-at-clause-none : goal.returns-then-here-at-clause-none
returns-then-here-at-clause-none c =
    let seg = placed c.args.at c.args.bytes.now in
    let none : find (covers c.args.here) c.args.pieces.now ≡ None = sym c.covering.ensures ∙ ap option_copied c.in_default.is in
    next_none c.args.pieces.now seg c.args.here none (covers_below c.args.here seg c.if-here-at.true)

pub returns-then-at-bytes-clause-none : goal.returns-then-at-bytes-clause-none
returns-then-at-bytes-clause-none c =
    let seg = placed c.args.at c.args.bytes.now in
    let none : find (covers c.args.here) c.args.pieces.now ≡ None = sym c.covering.ensures ∙ ap option_copied c.in_default.is in
    let over : end_of seg ≤ c.args.here = omega (arith, c.if-at-bytes.true) in
    next_none c.args.pieces.now seg c.args.here none (covers_behind c.args.here seg over)

pub returns-clause-some : goal.returns-clause-some
returns-clause-some c =
    let here = c.args.here in
    let pieces = c.args.pieces.now in
    let seg = placed c.args.at c.args.bytes.now in
    let none : find (covers here) pieces ≡ None = sym c.covering.ensures ∙ ap option_copied c.in_default.is in
    let begun : seg.at ≤ here = omega (arith, c.if-here-at.false) in
    let inside : here < end_of seg = omega (arith, c.if-at-bytes.false) in
    next_fresh pieces seg here (fold (closer here) (end_of seg) pieces) c.until_next-2.result.now
    none begun inside refl c.requires.small c.until_next-2.ensures
