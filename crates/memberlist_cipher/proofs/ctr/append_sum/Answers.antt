use Rattle.std.proofs.Common.{◌+◌, List, ℕ, [], ◌∷◌, ◌++◌, get_or, drop, sym, ap, ◌∙◌, arith, bit_xor, append_assoc, append-nil}
use Rattle.memberlist_cipher.specs.Block.{plus_bytes}
use Rattle.memberlist_cipher.proofs.Hashes.{plus_step, plus_end}
use Rattle.memberlist_cipher.proofs.ctr.append_sum.Goals as goal

pub loop-i-preserved : goal.loop-i-preserved
loop-i-preserved c =
    let i = c.loop-i.i in
    let front = c.args.front.now in
    let mask = c.args.mask in
    let v = bit_xor (get_or front i 0) (get_or mask i 0) in
    let rest = plus_bytes (drop (i + 1) front) (drop (i + 1) mask) in
    record {
      items =
          ap (λ (o : List ℕ). o ++ rest) c.push_reserved.ensures.items
          ∙ append_assoc c.loop-i.out.items (v ∷ []) rest
          ∙ ap (λ (o : List ℕ). c.loop-i.out.items ++ o) (sym (plus_step i front mask (omega arith) (omega arith)))
          ∙ c.loop-i.invariant.items;
      len = omega (arith, c.push_reserved.ensures.len, c.loop-i.invariant.len);
      capacity = c.push_reserved.ensures.capacity ∙ c.loop-i.invariant.capacity;
    }

pub returns-clause-items : goal.returns-clause-items
returns-clause-items c =
    let i = c.loop-i.i in
    sym (append-nil c.loop-i.out.items)
    ∙ ap (λ (o : List ℕ). c.loop-i.out.items ++ o) (sym (plus_end i c.args.front.now (drop i c.args.mask) (omega arith)))
    ∙ c.loop-i.invariant.items
