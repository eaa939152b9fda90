use Rattle.std.proofs.Common.{◌≡◌, ◌<◌, ◌≤◌, [], length, inl, sym, arith, rules}
use Rattle.std.proofs.lemmas.Result.{err_from_is_err_and}
use Rattle.std.specs.Int.{w16, from_be_bytes}
use Rattle.std.proofs.Common.{ap, ◌∙◌}
use Rattle.swim_wire.specs.Reading.{nothing_after}
use Rattle.swim_wire.specs.Datagrams.{parts_at}
use Rattle.swim_wire.specs.Parts.{lengths_in}
use Rattle.swim_wire.proofs.Asking.{fault_exits}
use Rattle.swim_wire.proofs.DatagramAsking.{part_asks, later_part_asks}
use Rattle.swim_wire.proofs.Parts.{parts_cut, next_part, wrong_part, all_read, left_over}
use Rattle.swim_wire.proofs.datagram.decode_parts.Goals as goal

pub returns-in_default-split_at_checked-clause-lists : goal.returns-in_default-split_at_checked-clause-lists
returns-in_default-split_at_checked-clause-lists c =
    let pair = c.in-Some.ensures.cases in
    let sum = pair.2 in
    let le : 2 ≤ length c.loop-length.lengths.now = omega arith in
    let len : c.from-len.result ≡ from_be_bytes w16 c.in-Some.length.now = search rules in
    let lt : length c.loop-length.rest.now < c.from-len.result = search rules in
    inl (ap nothing_after (c.loop-length.invariant.0 ∙ parts_cut _ _ _ _ _ le pair.0 len lt))

pub returns-in_err-take_part-clause-lists : goal.returns-in_err-take_part-clause-lists
returns-in_err-take_part-clause-lists c =
    let p = err_from_is_err_and c.from_residual.result c.from_residual.ensures.1 in
    let pair = c.in-Some.ensures.cases in
    let sum = pair.2 in
    let le : 2 ≤ length c.loop-length.lengths.now = omega arith in
    let len : c.from-len.result ≡ from_be_bytes w16 c.in-Some.length.now = search rules in
    let parts = c.in-Some-split_at_checked.ensures.cases in
    rw (p.1, p.2)
    (wrong_part _ _ _ _ _ c.take_part.new.packets.items _ _ _ c.loop-length.invariant.0 le pair.0 len parts.0
    parts.1 c.in_err-take_part.ensures.grows)

pub loop-length-preserved : goal.loop-length-preserved
loop-length-preserved c =
    let pair = c.in-Some.ensures.cases in
    let sum = pair.2 in
    let le : 2 ≤ length c.loop-length.lengths.now = omega arith in
    let len : c.from-len.result ≡ from_be_bytes w16 c.in-Some.length.now = search rules in
    let parts = c.in-Some-split_at_checked.ensures.cases in (
      next_part _ _ _ _ _ _ _ _ _ _ _ c.loop-length.invariant.0 le pair.0 pair.1 len parts.0 parts.1 parts.2
          c.in_ok-take_part.ensures.grows,
      λ asks. c.loop-length.invariant.1 (later_part_asks _ _ _ _ _ _ le pair.0 pair.1 len parts.0 parts.2 asks),
    )

pub returns-then-is_empty-clause-lists : goal.returns-then-is_empty-clause-lists
returns-then-is_empty-clause-lists c =
    let lt : length c.loop-length.lengths.now < 2 = search rules in
    let none : length c.loop-length.rest.now ≡ 0 = search rules in
    all_read _ _ _ _ c.loop-length.invariant.0 lt none

pub returns-else-is_empty-clause-lists : goal.returns-else-is_empty-clause-lists
returns-else-is_empty-clause-lists c =
    let lt : length c.loop-length.lengths.now < 2 = search rules in
    let some : 0 < length c.loop-length.rest.now = search rules in
    inl (left_over _ _ _ _ c.loop-length.invariant.0 lt some)

pub loop-length-init : goal.loop-length-init
loop-length-init c =
    let none : c.new-packets.result.items ≡ [] = search rules in
    (ap (λ ps. parts_at (lengths_in c.args.lengths.now) ps c.args.parts.now) (sym none), λ asks. asks)

pub returns-in_err-take_part-clause-memory : goal.returns-in_err-take_part-clause-memory
returns-in_err-take_part-clause-memory c =
    let pair = c.in-Some.ensures.cases in
    let sum = pair.2 in
    let le : 2 ≤ length c.loop-length.lengths.now = omega arith in
    let len : c.from-len.result ≡ from_be_bytes w16 c.in-Some.length.now = search rules in
    let parts = c.in-Some-split_at_checked.ensures.cases in
    fault_exits _ c.from_residual.ensures.1
    (λ is. c.loop-length.invariant.1 (part_asks _ _ _ _ _ le pair.0 len parts.0 parts.1 (c.in_err-take_part.ensures.memory is)))
