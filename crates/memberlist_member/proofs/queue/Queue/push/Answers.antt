use Rattle.std.proofs.Common.{ℕ, ap, subst, ◌∙◌}
use Rattle.memberlist_member.specs.Queues.{IsAbout, IsFirstAbout, unsent}
use Rattle.memberlist_member.proofs.Queueing.{put_last, put_over}
use Rattle.memberlist_member.proofs.queue.Queue.push.Goals.{in-Some, in-None+in_ok-push-in-None}
use Rattle.memberlist_member.proofs.queue.Queue.push.Goals as goal

pub returns-clause-added : goal.returns-clause-added
returns-clause-added c =
    let waiting = c.args.self.now.waiting.items in
    let b = unsent c.args.subject c.args.bytes c.args.self.now.next_id in
    elim c.match-place_of.branch [
      | in-Some w ↦ ap (λ q. q.1.0.items) w.self-is
          ∙ put_over b waiting w.in-Some.place
          (subst (λ s. IsFirstAbout s waiting w.in-Some.place) c.deref.ensures.value w.in-Some.ensures.some)
      | in-None+in_ok-push-in-None w ↦ ap (λ q. q.1.0.items) w.self-is ∙ w.in_ok-push-in-None.ensures.items
          ∙ put_last b waiting (subst (λ s. (other : ℕ) → ¬ IsAbout s waiting other) c.deref.ensures.value w.in-None.ensures.none)
    ]
