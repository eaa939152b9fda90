use Rattle.std.proofs.Common.{length, ap, arith}
use Rattle.std.proofs.lemmas.List.{length-map}
use Rattle.memberlist_member.proofs.Apart.{apart_left, distinct_left}
use Rattle.memberlist_member.proofs.Picking.{each_fits, picks_count, picks_total}
use Rattle.memberlist_member.proofs.Sending.{still_below, still_numbered}
use Rattle.memberlist_member.proofs.queue.Queue.take.Goals as goal

pub invariant_of-self : goal.invariant_of-self
invariant_of-self c =
    let old = c.args.self.now in
    let ids = c.deref.result.now in
    record {
      numbered = rw c.count.ensures (still_numbered old.next_id c.args.limit ids old.waiting.items old.numbered);
      distinct = rw c.count.ensures (distinct_left c.args.limit ids old.waiting.items old.distinct);
    }

pub returns-clause-room : goal.returns-clause-room
returns-clause-room c =
    let old = c.args.self.now.waiting.items in
    let picks = c.in_ok-ids.ensures in
    rw picks.bytes (picks_total c.args.overhead c.args.room c.args.most old picks.picked picks.which)

pub returns-clause-each : goal.returns-clause-each
returns-clause-each c =
    let old = c.args.self.now.waiting.items in
    let picks = c.in_ok-ids.ensures in
    each_fits (λ p. p.items) c.args.overhead c.args.room c.in_ok-ids.field-0.parts.items
    (rw picks.bytes (picks_total c.args.overhead c.args.room c.args.most old picks.picked picks.which))

pub returns-clause-most : goal.returns-clause-most
returns-clause-most c =
    let old = c.args.self.now.waiting.items in
    let picks = c.in_ok-ids.ensures in
    let few = picks_count c.args.overhead c.args.room c.args.most old picks.picked picks.which in
    let same = ap length picks.bytes in
    let parts = length-map c.in_ok-ids.field-0.parts.items (λ p. p.items) in
    let picked = length-map picks.picked (λ b. b.bytes.items) in
    omega (arith, few, same, parts, picked)

pub returns-clause-below : goal.returns-clause-below
returns-clause-below c all = rw c.count.ensures (still_below c.args.limit c.deref.result.now c.args.self.now.waiting.items all)

pub returns-clause-apart : goal.returns-clause-apart
returns-clause-apart c apart = rw c.count.ensures (apart_left c.args.limit c.deref.result.now c.args.self.now.waiting.items apart)
