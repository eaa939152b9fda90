use Rattle.std.proofs.Common.{◌<◌, ℕ}
use Rattle.memberlist_member.specs.Queues.{IsAbout}
use Rattle.memberlist_member.proofs.queue.Queue.place_of.Given as goal

abbrev pub invariant-loop-index : goal.invariant-loop-index
invariant-loop-index l = (other : ℕ) → other < l.index → ¬ IsAbout l.subject l.self.waiting.items other
