use Rattle.std.proofs.Common.{◌≡◌, true, false, [], ◌∷◌, ◌++◌, ◌⊎◌, inl, inr, length, ◌==◌, subst, rules}
use Rattle.std.specs.List.{list_any}
use Rattle.std.specs.VecDeque.{deque_items}
use Rattle.swimwatch.specs.Ways.{packet_of, packet_text, is_again, is_unknown, AreKept}
use Rattle.swimwatch.proofs.Packets.{came, either, still}
use Rattle.swimwatch.proofs.heard.recent.Recent.has.Goals as goal
use Rattle.swimwatch.proofs.heard.recent.Recent.has.Goals.{then-is_among-via-then-is_among, then-is_among-via-else-is_among+then-is_among-2}

pub returns-then-is_unknown-clause-kept : goal.returns-then-is_unknown-clause-kept
returns-then-is_unknown-clause-kept c past kept =
    still past c.args.self.now (packet_of c.args.sent.now c.args.way c.args.seq c.args.payload.now) kept

pub returns-then-is_among-clause-again : goal.returns-then-is_among-clause-again
returns-then-is_among-clause-again c past kept again =
    let new = packet_of c.args.sent.now c.args.way c.args.seq c.args.payload.now in
    let xs = c.as_slices.result.0.now in
    let ys = c.as_slices.result.1.now in
    let known : is_unknown c.args.way ≡ false = search rules in
    let some : (length c.args.payload.now == 0) ≡ false = search rules in
    let found : (list_any (λ old. is_again (packet_text old) new) xs ≡ true)
    ⊎ (list_any (λ old. is_again (packet_text old) new) ys ≡ true) = elim c.then-is_among.branch [
      | then-is_among-via-then-is_among w ↦ (
          let e : list_any (λ old. is_again (packet_text old) new) xs ≡ true = search rules in inl e)
      | then-is_among-via-else-is_among+then-is_among-2 w ↦ (
          let e : list_any (λ old. is_again (packet_text old) new) ys ≡ true = search rules in inr e)
    ] in
    let old = came new past c.args.self.now kept (either new xs ys (deque_items c.args.self.now.packets) c.as_slices.ensures.items found) in
    (known, some, old.0, old.1, old.2)

pub returns-then-is_among-clause-kept : goal.returns-then-is_among-clause-kept
returns-then-is_among-clause-kept c past kept =
    let new = packet_of c.args.sent.now c.args.way c.args.seq c.args.payload.now in
    let same : c.args.self.now ≡ c.then-is_among.self = elim c.then-is_among.branch [
      | then-is_among-via-then-is_among w ↦ search rules
      | then-is_among-via-else-is_among+then-is_among-2 w ↦ search rules
    ] in
    still past c.then-is_among.self new (subst (AreKept past) same kept)

pub returns-clause-kept : goal.returns-clause-kept
returns-clause-kept c past kept =
    subst (λ p. AreKept (past ++ p ∷ []) c.keep.new.self) c.in_ok-copied.ensures (c.in_ok-keep.ensures past kept)
