use Rattle.std.proofs.Common.{◌≡◌, [], ◌∷◌, ◌++◌, None, rules}
use Rattle.std.specs.Option.{option_to_list}
use Rattle.std.specs.VecDeque.{deque_items}
use Rattle.swimwatch.proofs.Packets.{pushed}
use Rattle.swimwatch.proofs.heard.recent.Recent.keep.Goals as goal
use Rattle.swimwatch.proofs.heard.recent.Recent.keep.Goals.{then-len-ge-MAX_KEPT+in-Some-1, then-len-ge-MAX_KEPT+in-None-1, else-len-ge-MAX_KEPT}

pub returns : goal.returns
returns c past kept =
    let p = c.args.packet in
    let old = deque_items c.args.self.now.packets in
    let mid = deque_items c.if-len-ge-MAX_KEPT.self.packets in
    let new = deque_items c.push_back.new.self in
    let is : new ≡ mid ++ p ∷ [] = search rules in
    elim c.if-len-ge-MAX_KEPT.branch [
      | then-len-ge-MAX_KEPT+in-Some-1 w ↦ (
          let was : old ≡ option_to_list w.pop_front.result ++ mid = search rules in
          pushed past old mid new w.pop_front.result p kept was is)
      | then-len-ge-MAX_KEPT+in-None-1 w ↦ (
          let was : old ≡ option_to_list w.pop_front.result ++ mid = search rules in
          pushed past old mid new w.pop_front.result p kept was is)
      | else-len-ge-MAX_KEPT w ↦ (
          let was : old ≡ mid = search rules in
          pushed past old mid new None p kept was is)
    ]
