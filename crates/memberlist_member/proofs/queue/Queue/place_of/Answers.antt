use Rattle.std.proofs.Common.{◌<◌, ◌∙◌, length, refl, sym, arith}
use Rattle.std.proofs.lemmas.Option.{slice_get_read}
use Rattle.memberlist_member.proofs.Queueing.{none_about, not_about}
use Rattle.memberlist_member.proofs.queue.Queue.place_of.Goals as goal

pub returns-then-is_about-clause-some : goal.returns-then-is_about-clause-some
returns-then-is_about-clause-some c =
    let waiting = c.args.self.now.waiting.items in
    let b = c.index.result.now in
    let within : c.loop-index.index < length waiting = omega (arith, c.loop-index-test.true, c.len-index-end.ensures) in
    let there = slice_get_read waiting (length waiting) c.loop-index.index b refl within c.index.ensures in
    ((b, there, sym c.is_about.ensures ∙ c.if-is_about.true), c.loop-index.invariant)

pub loop-index-preserved : goal.loop-index-preserved
loop-index-preserved c =
    let waiting = c.args.self.now.waiting.items in
    let b = c.index.result.now in
    let within : c.loop-index.index < length waiting = omega (arith, c.loop-index-test.true, c.len-index-end.ensures) in
    let there = slice_get_read waiting (length waiting) c.loop-index.index b refl within c.index.ensures in
    not_about c.args.subject.now waiting c.loop-index.index b there (sym c.is_about.ensures ∙ c.if-is_about.false)
    c.loop-index.invariant

pub returns-clause-none : goal.returns-clause-none
returns-clause-none c =
    none_about c.args.subject.now c.args.self.now.waiting.items c.loop-index.index
    (omega (arith, c.loop-index-test.false, c.loop-index.auto.index-end, c.len-index-end.ensures)) c.loop-index.invariant
