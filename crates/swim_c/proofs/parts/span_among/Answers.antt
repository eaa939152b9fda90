use Rattle.std.proofs.Common.{◌≡◌, length, slice_get, arith, length-append, ap, ◌∙◌}
use Rattle.memberlist_message.specs.Compounds.{parts_in}
use Rattle.swim_c.proofs.PartsAt.{here, next_same, next_behind}
use Rattle.swim_c.proofs.parts.span_among.Goals as goal

pub loop-left-preserved : goal.loop-left-preserved
loop-left-preserved c =
    let was = c.loop-left.invariant in
    let part = c.in_ok-at.field-0.now in
    let rest = c.next_part.new.self.bytes in
    let long = ap length c.in_ok-at.ensures.bytes ∙ length-append part rest in
    record {
      same = was.same ∙ next_same _ _ part c.loop-left.left c.in_ok-at.ensures.part c.loop-left-test.true;
      count = omega (arith, was.count, ap length c.in_ok-at.ensures.part, c.loop-left-test.true);
      behind = next_behind _ _ rest part c.loop-left.at was.behind c.in_ok-at.ensures.bytes;
      within = omega (arith, was.within, long);
    }

pub returns-clause-part : goal.returns-clause-part
returns-clause-part c =
    let was = c.loop-left.invariant in
    let now = c.loop-left.parts in
    let none : c.loop-left.left ≡ 0 = omega arith in
    here c.args.parts.now.bytes _ _ c.in_ok-part.part.now _ _ _ c.loop-left.at c.args.i
    (was.same ∙ ap (slice_get (parts_in now.lens now.bytes)) none)
    c.in_ok-part.ensures.part was.behind c.in_ok-part.ensures.bytes
