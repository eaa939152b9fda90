use Rattle.std.proofs.Common.{◌≡◌, inl, inr, ℕ, ◌+◌, ◌-◌, ◌*◌, ◌/◌, List, ◌++◌, length, sym, ap, ap₂, ◌∙◌, arith, length-append}
use Rattle.memberlist_cipher.specs.Block.{expanded, schedule, next_word}
use Rattle.memberlist_cipher.specs.Encryption.{IsKey}
use Rattle.memberlist_cipher.proofs.Scheduling.{expanded_step}
use Rattle.memberlist_cipher.proofs.schedule.round_keys.Goals as goal

four_times : (key : List ℕ) → IsKey key → length key ≡ 4 * (length key / 4)
four_times key (inl e) = omega arith
four_times key (inr (inl e)) = omega arith
four_times key (inr (inr e)) = omega arith

pub loop-init : goal.loop-init
unfolding schedule
loop-init c =
    let key = c.args.key.now in
    let nk = length key / 4 in
    let items : c.append.new.to.items ≡ key =
    c.append.ensures.items ∙ ap (λ (o : List ℕ). o ++ key) c.in_ok-with_capacity.ensures.items in
    let first : 28 + 3 * nk - 0 ≡ 28 + 3 * nk = omega arith in
    record {
      size = omega (arith, ap length items, four_times key c.requires);
      len = omega (arith, c.append.ensures.len, c.in_ok-with_capacity.ensures.len, four_times key c.requires);
      capacity = c.append.ensures.in_place ∙ c.in_ok-with_capacity.ensures.exact;
      same = ap₂ (expanded nk) first items;
    }

pub loop-preserved : goal.loop-preserved
loop-preserved c =
    let nk = length c.args.key.now / 4 in
    let n = 28 + 3 * nk - c.loop.counter in
    let old = c.loop.keys.words.items in
    let next = c.next_word-next.result in
    let items : c.append-in-loop.new.to.items ≡ old ++ next = c.append-in-loop.ensures.items in
    let size : length next ≡ 4 = omega arith in
    let before = c.loop.invariant.size in
    let one : 28 + 3 * nk - (c.loop.counter + 1) ≡ n - 1 = omega arith in
    record {
      size = omega (arith, ap length items, length-append old next);
      len = omega (arith, size, c.append-in-loop.ensures.len, c.loop.invariant.len);
      capacity = c.append-in-loop.ensures.in_place ∙ c.loop.invariant.capacity;
      same =
          ap₂ (expanded nk) one (items ∙ ap (λ (o : List ℕ). old ++ o) (c.next_word-next.ensures ∙ ap (next_word nk) c.deref.ensures.value))
          ∙ sym (expanded_step nk n old (omega arith))
          ∙ c.loop.invariant.same;
    }

pub returns-clause-words : goal.returns-clause-words
unfolding expanded
returns-clause-words c =
    let nk = length c.args.key.now / 4 in
    let none : 0 ≡ 28 + 3 * nk - c.loop.counter = omega arith in
    ap (λ n. expanded nk n c.loop.keys.words.items) none ∙ c.loop.invariant.same
