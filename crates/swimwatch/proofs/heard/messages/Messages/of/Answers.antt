use Rattle.std.proofs.Common.{◌≡◌, ◌<◌, ◌≤◌, [], ◌∙◌, List, ℕ, Bor, map, take, length, slice_index_or, sym, subst, arith}
use Rattle.std.proofs.lemmas.List.{take_all, take_more}
use Rattle.swimwatch.specs.Datagrams.{values, Reads}
use Rattle.swimwatch.proofs.LeavesRead.{leaf_read, no_part, one_more_part}
use Rattle.swimwatch.proofs.heard.messages.Messages.of.Goals as goal

pub loop-leaf-preserved : goal.loop-leaf-preserved
loop-leaf-preserved c =
    let items = c.deref-leaf-items.result.now in
    let i = c.loop-leaf.leaf-index in
    let part = slice_index_or items i no_part in
    let past = map (λ (p : Bor (List ℕ)). p.now) (take i items) in
    let mid = c.loop-leaf.messages in
    let new = c.take_leaf.new.self in
    let within : i < length items = omega arith in
    subst (λ (ps : List (List ℕ)). Reads 1048576 ps [] (values new.read.items) new.room)
    (sym (one_more_part items i part within (take_more items i no_part within)))
    (leaf_read 1048576 past part.now [] (values mid.read.items) (values new.read.items) mid.room new.room c.loop-leaf.invariant
    c.in_ok-take_leaf.ensures)

pub returns : goal.returns
returns c =
    let items = c.deref-leaf-items.result.now in
    let parts = c.in_ok-leaves.leaves.parts.items in
    let read = c.loop-leaf.messages in
    let ended : length items ≤ c.loop-leaf.leaf-index = omega arith in
    let all : take c.loop-leaf.leaf-index items ≡ items = take_all c.loop-leaf.leaf-index items ended in
    let same : items ≡ parts = c.deref-leaf-items.ensures.value in (
      map (λ (p : Bor (List ℕ)). p.now) parts,
      c.in_ok-leaves.leaves.truncated,
      read.room,
      c.in_ok-leaves.ensures,
      subst (λ (ps : List (Bor (List ℕ))). Reads 1048576 (map (λ (p : Bor (List ℕ)). p.now) ps) []
          (values read.read.items) read.room) (all ∙ same)
          c.loop-leaf.invariant,
    )
