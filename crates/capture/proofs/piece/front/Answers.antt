use Rattle.std.proofs.Common.{◌≡◌, sym, ◌∙◌, ap, arith}
use Rattle.std.specs.Prelude.{Some, None, find}
use Rattle.std.specs.Option.{option_copied}
use Rattle.capture.specs.Flows.{covers}
use Rattle.capture.proofs.Covering.{covers_yes, covers_low, covers_high, found_covers}
use Rattle.capture.proofs.Queued.{follows, some_found, clean_end, clean_none}
use Rattle.capture.proofs.piece.front.Goals as goal

pub returns-in-Some-clause-from : goal.returns-in-Some-clause-from
returns-in-Some-clause-from c =
    let piece = c.in-Some.piece.now in
    let found : find (covers c.args.place) c.args.pieces.now ≡ Some piece = sym c.in-Some.ensures in
    let high = covers_high c.args.place piece (found_covers c.args.place c.args.pieces.now piece found) in
    omega (arith, high, c.end.ensures.is)

pub returns-in-Some-clause-covered : goal.returns-in-Some-clause-covered
returns-in-Some-clause-covered c = λ k low high.
    let piece = c.in-Some.piece.now in
    let found : find (covers c.args.place) c.args.pieces.now ≡ Some piece = sym c.in-Some.ensures in
    let begun = covers_low c.args.place piece (found_covers c.args.place c.args.pieces.now piece found) in
    some_found c.args.place k c.args.pieces.now piece found
    (covers_yes k piece (omega (arith, begun, low)) (omega (arith, high, c.end.ensures.is)))

pub returns-in-Some-clause-clean : goal.returns-in-Some-clause-clean
returns-in-Some-clause-clean c =
    let piece = c.in-Some.piece.now in
    let found : find (covers c.args.place) c.args.pieces.now ≡ Some piece = sym c.in-Some.ensures in
    rw c.end.ensures.is (clean_end c.args.place c.args.pieces.now piece (follows c.args.pieces.now c.requires.in_order) found)

pub returns-in-None-clause-clean : goal.returns-in-None-clause-clean
returns-in-None-clause-clean c =
    let none : find (covers c.args.place) c.args.pieces.now ≡ None = sym c.covering.ensures ∙ ap option_copied c.in-None.is in
    clean_none c.args.place c.args.pieces.now none
