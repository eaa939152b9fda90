use Rattle.std.proofs.Common.{◌∷◌, ◌++◌, [], length, map, All, sym, ap, subst, ◌∙◌, append_assoc, arith}
use Rattle.std.specs.Vec.Iter.{into_iter_items}
use Rattle.std.proofs.lemmas.List.Elements.{All-cons}
use Rattle.swim_claim.specs.Claim.{IsLegalClaim}
use Rattle.swim_table.specs.Join.{standing_of}
use Rattle.swim_table.proofs.entry.Entry.new_each.Goals as goal

pub loop-claim-preserved : goal.loop-claim-preserved
loop-claim-preserved c =
    let next = c.in-Some.ensures.steps in
    let fewer = ap length next.0 in
    let rest = map standing_of (into_iter_items c.next.new.self) in
    let pushed = c.in_ok-push.ensures.items ∙ ap (λ s. c.loop-claim.entries.items ++ s ∷ []) c.in-Ok.ensures.ok in
    record {
      whole =
          ap (λ t. t ++ rest) pushed ∙ append_assoc c.loop-claim.entries.items (standing_of c.in-Some.claim ∷ []) rest
          ∙ sym (ap (λ t. c.loop-claim.entries.items ++ map standing_of t) next.0) ∙ c.loop-claim.invariant.whole;
      legal =
          λ h.
          c.loop-claim.invariant.legal
          (subst (All IsLegalClaim) (sym next.0)
          (All-cons IsLegalClaim c.in-Some.claim
          (into_iter_items c.next.new.self) c.new.ensures.legal h));
      counted = omega (arith, next.1, fewer, c.loop-claim.invariant.counted);
    }
