use Rattle.std.proofs.Common.{◌<◌, IfSome, length, refl, subst}
use Rattle.std.proofs.lemmas.Option.{slice_get_read}
use Rattle.memberlist_member.specs.Queues.{CanFollow, GoesBefore, IsBest}
use Rattle.memberlist_member.proofs.Queueing.{first_found, goes_first, passed_over, stays_behind}
use Rattle.memberlist_member.proofs.queue.Queue.better.Goals as goal

pub returns-then-not-can_follow-clause-best : goal.returns-then-not-can_follow-clause-best
returns-then-not-can_follow-clause-best c best =
    let waiting = c.args.self.now.waiting.items in
    let b = c.index-broadcast.result.now in
    let Can = CanFollow waiting c.args.last c.args.overhead c.args.room in
    let there = slice_get_read waiting (length waiting) c.args.index b refl c.requires.index c.index-broadcast.ensures in
    let cannot : ¬ Can b = λ can. absurd (cc (c.if-not-can_follow.true, c.can_follow.ensures.1 can)) in
    passed_over Can waiting c.args.index b there c.args.best cannot best

pub returns-in_default-clause-best : goal.returns-in_default-clause-best
returns-in_default-clause-best c best =
    let waiting = c.args.self.now.waiting.items in
    let b = c.index-broadcast.result.now in
    let Can = CanFollow waiting c.args.last c.args.overhead c.args.room in
    let there = slice_get_read waiting (length waiting) c.args.index b refl c.requires.index c.index-broadcast.ensures in
    first_found Can waiting c.args.index b there (c.can_follow.ensures.0 c.if-not-can_follow.false)
    (subst (λ o. IsBest Can waiting c.args.index o) c.in_default.is best)

pub returns-then-goes_before-clause-best : goal.returns-then-goes_before-clause-best
returns-then-goes_before-clause-best c best =
    let waiting = c.args.self.now.waiting.items in
    let b = c.index-broadcast.result.now in
    let f = c.index.result.now in
    let Can = CanFollow waiting c.args.last c.args.overhead c.args.room in
    let there = slice_get_read waiting (length waiting) c.args.index b refl c.requires.index c.index-broadcast.ensures in
    let inside = subst (λ o. IfSome o (λ found. found < length waiting)) c.in-Some.is c.requires.best in
    let at = slice_get_read waiting (length waiting) c.in-Some.found f refl inside c.index.ensures in
    goes_first Can waiting c.args.index b there c.in-Some.found f at (c.can_follow.ensures.0 c.if-not-can_follow.false)
    (c.goes_before.ensures.0 c.if-goes_before.true)
    (subst (λ o. IsBest Can waiting c.args.index o) c.in-Some.is best)

pub returns-else-goes_before-clause-best : goal.returns-else-goes_before-clause-best
returns-else-goes_before-clause-best c best =
    let waiting = c.args.self.now.waiting.items in
    let b = c.index-broadcast.result.now in
    let f = c.index.result.now in
    let Can = CanFollow waiting c.args.last c.args.overhead c.args.room in
    let there = slice_get_read waiting (length waiting) c.args.index b refl c.requires.index c.index-broadcast.ensures in
    let inside = subst (λ o. IfSome o (λ found. found < length waiting)) c.in-Some.is c.requires.best in
    let at = slice_get_read waiting (length waiting) c.in-Some.found f refl inside c.index.ensures in
    let behind : ¬ GoesBefore b f = λ before. absurd (cc (c.if-goes_before.false, c.goes_before.ensures.1 before)) in
    stays_behind Can waiting c.args.index b there c.in-Some.found f at behind
    (subst (λ o. IsBest Can waiting c.args.index o) c.in-Some.is best)
