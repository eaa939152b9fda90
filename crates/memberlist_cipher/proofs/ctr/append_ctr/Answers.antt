use Rattle.std.proofs.Common.{refl, ℕ, ◌+◌, ◌%◌, ◌^◌, List, ◌++◌, drop, sym, ap, ap₂, ◌∙◌, arith, append_assoc, append-nil, length-drop}
use Rattle.memberlist_cipher.specs.Block.{plus_bytes, cipher}
use Rattle.memberlist_cipher.specs.Gcm.{counted, counted_all, ctr}
use Rattle.memberlist_cipher.proofs.Hashes.{counted_step, counted_end, counted_four, tail_is}
use Rattle.memberlist_cipher.proofs.ctr.append_ctr.Goals as goal

pub loop-rest-init : goal.loop-rest-init
unfolding ctr
loop-rest-init c = record {
  bytes = refl;
  len = refl;
  capacity = refl;
}

pub loop-rest-preserved : goal.loop-rest-preserved
loop-rest-preserved c =
    let f = cipher c.args.words.now c.args.count in
    let nonce = c.args.nonce.now in
    let n = c.loop-rest.counter in
    let old = c.loop-rest.to.items in
    let rest = c.loop-rest.rest.now in
    let more = counted_all f nonce ((n + 4) % 2 ^ 32) (drop 64 rest) in
    record {
      bytes =
          ap₂ (λ (o r : List ℕ). o ++ counted_all f nonce ((n + 4) % 2 ^ 32) r) c.append_four.ensures.items (tail_is 64 rest)
          ∙ append_assoc old (counted 4 f nonce n rest) more
          ∙ ap (λ (p : List ℕ). old ++ p) (sym (counted_four f nonce n rest (omega arith)))
          ∙ c.loop-rest.invariant.bytes;
      len = omega (arith, c.append_four.ensures.len, length-drop 64 rest, c.loop-rest.invariant.len);
      capacity = c.append_four.ensures.in_place ∙ c.loop-rest.invariant.capacity;
    }

pub loop-rest-2-preserved : goal.loop-rest-2-preserved
loop-rest-2-preserved c =
    let f = cipher c.args.words.now c.args.count in
    let nonce = c.args.nonce.now in
    let n = c.loop-rest-2.counter in
    let old = c.loop-rest-2.to.items in
    let rest = c.loop-rest-2.rest.now in
    let more = counted_all f nonce ((n + 1) % 2 ^ 32) (drop 16 rest) in
    record {
      bytes =
          ap₂ (λ (o r : List ℕ). o ++ counted_all f nonce ((n + 1) % 2 ^ 32) r) c.append_sum.ensures.items c.split_block.ensures.back
          ∙ append_assoc old _ more
          ∙ ap (λ (p : List ℕ). old ++ (p ++ more))
          (ap₂ plus_bytes c.split_block.ensures.front
          (c.cipher-mask.ensures ∙ ap f c.counter_block.ensures))
          ∙ ap (λ (p : List ℕ). old ++ p) (sym (counted_step f nonce n rest c.loop-rest-2-test.true))
          ∙ c.loop-rest-2.invariant.bytes;
      len = omega (arith, c.append_sum.ensures.len, c.split_block.ensures.len, c.loop-rest-2.invariant.len);
      capacity = c.append_sum.ensures.in_place ∙ c.loop-rest-2.invariant.capacity;
    }

pub returns-clause-items : goal.returns-clause-items
returns-clause-items c =
    let f = cipher c.args.words.now c.args.count in
    sym (append-nil c.loop-rest-2.to.items)
    ∙ ap (λ (o : List ℕ). c.loop-rest-2.to.items ++ o)
    (sym (counted_end f c.args.nonce.now c.loop-rest-2.counter c.loop-rest-2.rest.now (omega arith)))
    ∙ c.loop-rest-2.invariant.bytes
