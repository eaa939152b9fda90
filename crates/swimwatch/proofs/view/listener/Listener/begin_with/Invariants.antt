use Rattle.std.proofs.Common.{◌≡◌, take}
use Rattle.swimwatch.specs.Viewed.{begin_with}
use Rattle.swimwatch.proofs.view.listener.Listener.begin_with.Given as goal

abbrev pub invariant-loop-claim : goal.invariant-loop-claim
invariant-loop-claim l =
    l.self.view ≡ begin_with l.time l.initial.self.view (take l.claim-index l.claims)
