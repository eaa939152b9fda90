use Rattle.std.proofs.Common.{◌<◌, Decides, IfSome, length, refl, sym, subst}
use Rattle.std.proofs.lemmas.Option.{slice_get_read}
use Rattle.memberlist_member.specs.Queues.{CanFollow, GoesBefore}
use Rattle.memberlist_member.proofs.Queueing.{one}
use Rattle.memberlist_member.proofs.queue.Queue.can_follow.Goals as goal

pub returns-in-Some : goal.returns-in-Some
returns-in-Some c =
    let waiting = c.args.self.now.waiting.items in
    let b = c.args.broadcast.now in
    let l = c.index.result.now in
    let inside = subst (λ o. IfSome o (λ before. before < length waiting)) c.in-Some.is c.requires in
    let there = slice_get_read waiting (length waiting) c.in-Some.before l refl inside c.index.ensures in
    subst (λ o. Decides c.goes_before.result (CanFollow waiting o c.args.overhead c.args.room b)) (sym c.in-Some.is) (
      λ yes. (c.fits.ensures.0 c.if-not-fits.false, (l, there, c.goes_before.ensures.0 yes)),
      λ can. c.goes_before.ensures.1 (subst (λ x. GoesBefore x b) (one waiting c.in-Some.before l can.1.0 there can.1.1) can.1.2),
    )
