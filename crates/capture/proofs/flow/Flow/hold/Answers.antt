use Rattle.std.proofs.Common.{◌≡◌, ◌≤◌, ◌<◌, ◌-◌, ◌++◌, ◌∷◌, [], length, take, drop, inl, inr, sym, ◌∙◌}
use Rattle.std.proofs.Common.{arith, length-append, length-take, length-drop}
use Rattle.std.specs.Prelude.{None, is_ok}
use Rattle.std.specs.List.{AllWithin}
use Rattle.capture.specs.Flows.{placed, end_of, byte_at, IsClean, AreCovered, SaysFrom}
use Rattle.capture.specs.FlowTexts.{flow_text}
use Rattle.capture.proofs.Covering.{which}
use Rattle.capture.proofs.Queued.{index_below, put_order, put_bytes}
use Rattle.capture.proofs.Saying.{says_covered, says_put, held_tight}
use Rattle.capture.proofs.flow.Flow.hold.Goals as goal

pub front-here-requires-clause-in_order : goal.front-here-requires-clause-in_order
front-here-requires-clause-in_order c = rw c.deref.ensures.value c.args.self.now.in_order

pub back-stop-requires : goal.back-stop-requires
back-stop-requires c = rw c.deref-2.ensures.value c.args.self.now.in_order

pub returns-then-stop-here-clause-counts : goal.returns-then-stop-here-clause-counts
returns-then-stop-here-clause-counts c = λ _ segments says.
    let xs = c.args.self.now.waiting.items in
    let seg = placed c.args.at c.args.bytes.now in
    let here = c.front-here.result in
    let stop = c.back-stop.result in
    let front : AreCovered c.args.at here xs = rw c.deref.ensures.value at c.front-here.ensures.covered in
    let back : AreCovered stop (end_of seg) xs = rw c.deref-2.ensures.value at c.back-stop.ensures.covered in
    says_covered segments (flow_text c.args.self.now) seg here stop front back c.if-stop-here.true says

pub before-from-requires : goal.before-from-requires
before-from-requires c = rw c.deref-3.ensures.value c.args.self.now.in_order

pub before-to-requires : goal.before-to-requires
before-to-requires c = rw c.deref-4.ensures.value c.args.self.now.in_order

pub returns-then-from-len-ge-MAX_WAITING-clause-crowded : goal.returns-then-from-len-ge-MAX_WAITING-clause-crowded
returns-then-from-len-ge-MAX_WAITING-clause-crowded c = λ _.
    let xs = c.args.self.now.waiting.items in
    let here = c.front-here.result in
    let stop = c.back-stop.result in
    let m = c.before-from.result in
    let n = c.before-to.result in
    let low : AllWithin (λ s. s.at < here) xs 0 m = rw c.deref-3.ensures.value at c.before-from.ensures.low in
    let high : AllWithin (λ s. stop ≤ s.at) xs n (length xs) = rw c.deref-4.ensures.value at c.before-to.ensures.high in
    let fits_m : m ≤ length xs = rw c.deref-3.ensures.value at c.before-from.ensures.bound in
    let fits_n : n ≤ length xs = rw c.deref-4.ensures.value at c.before-to.ensures.bound in
    let some : here < stop = c.if-stop-here.false in
    let le : m ≤ n = index_below xs here stop m n low high fits_m some in
    omega (arith, c.if-from-len-ge-MAX_WAITING.true, le, fits_n, c.len.ensures, c.args.self.now.waiting.ok.0)

pub patched-requires-clause-in_order : goal.patched-requires-clause-in_order
patched-requires-clause-in_order c = rw c.deref-5.ensures.value c.args.self.now.in_order

pub put-requires-clause-order : goal.put-requires-clause-order
put-requires-clause-order c =
    let xs = c.args.self.now.waiting.items in
    let here = c.front-here.result in
    let stop = c.back-stop.result in
    let m = c.before-from.result in
    let n = c.before-to.result in
    let low : AllWithin (λ s. s.at < here) xs 0 m = rw c.deref-3.ensures.value at c.before-from.ensures.low in
    let high : AllWithin (λ s. stop ≤ s.at) xs n (length xs) = rw c.deref-4.ensures.value at c.before-to.ensures.high in
    let fits_m : m ≤ length xs = rw c.deref-3.ensures.value at c.before-from.ensures.bound in
    let some : here < stop = c.if-stop-here.false in
    index_below xs here stop m n low high fits_m some

pub invariant_of-self : goal.invariant_of-self
invariant_of-self c =
    let old = c.args.self.now in
    let xs = c.args.self.now.waiting.items in
    let seg = placed c.args.at c.args.bytes.now in
    let here = c.front-here.result in
    let stop = c.back-stop.result in
    let m = c.before-from.result in
    let n = c.before-to.result in
    let found = c.in_ok-patched.field-0.items in
    let low : AllWithin (λ s. s.at < here) xs 0 m = rw c.deref-3.ensures.value at c.before-from.ensures.low in
    let mid : AllWithin (λ s. here ≤ s.at) xs m (length xs) = rw c.deref-3.ensures.value at c.before-from.ensures.high in
    let near : AllWithin (λ s. s.at < stop) xs 0 n = rw c.deref-4.ensures.value at c.before-to.ensures.low in
    let high : AllWithin (λ s. stop ≤ s.at) xs n (length xs) = rw c.deref-4.ensures.value at c.before-to.ensures.high in
    let fits_m : m ≤ length xs = rw c.deref-3.ensures.value at c.before-from.ensures.bound in
    let fits_n : n ≤ length xs = rw c.deref-4.ensures.value at c.before-to.ensures.bound in
    let clean : IsClean here xs = rw c.deref.ensures.value at c.front-here.ensures.clean in
    let clean_stop : IsClean stop xs = rw c.deref-2.ensures.value at c.back-stop.ensures.clean in
    let front : AreCovered c.args.at here xs = rw c.deref.ensures.value at c.front-here.ensures.covered in
    let back : AreCovered stop (end_of seg) xs = rw c.deref-2.ensures.value at c.back-stop.ensures.covered in
    let says_found : SaysFrom (xs ++ seg ∷ []) here found = rw c.deref-5.ensures.value at c.in_ok-patched.ensures.says in
    let count : length found ≡ stop - here = c.in_ok-patched.ensures.len in
    let some : here < stop = c.if-stop-here.false in
    let le : m ≤ n = index_below xs here stop m n low high fits_m some in
    let bytes = put_bytes xs seg here stop m n found c.args.self.now.in_order low mid near high fits_m fits_n
    clean clean_stop some count front back says_found in
    let order = put_order xs seg here stop m n found old.in_order low mid near high fits_m fits_n clean clean_stop some count in
    let gap = length old.text.items in
    let tight : byte_at gap (take m xs ++ placed here found ∷ drop n xs) ≡ None =
    sym (bytes gap) ∙ held_tight xs seg gap old.tight c.requires.apart in
    let long : length (take m xs ++ placed here found ∷ drop n xs) ≤ 4096 =
    simp (length-append, length-take, length-drop)
    (omega (
      arith,
      c.if-from-len-ge-MAX_WAITING.false,
      le,
      fits_n,
      fits_m,
      c.len.ensures,
      old.waiting.ok.0,
    )) in
    elim (which (is_ok c.put.result)) [
      | inl is ↦
          (let items : c.put.new.pieces.items ≡ take m xs ++ placed here found ∷ drop n xs = rw (is, c.of-piece.ensures) at c.put.ensures in
          record { tight = rw items tight; short = old.short; in_order = rw items order; few = rw items long })
      | inr isnt ↦
          (let items : c.put.new.pieces.items ≡ xs = rw isnt at c.put.ensures in
          record { tight = rw items old.tight; short = old.short; in_order = rw items old.in_order; few = rw items old.few })
    ]

pub returns-clause-counts : goal.returns-clause-counts
returns-clause-counts c = λ _ segments says.
    let xs = c.args.self.now.waiting.items in
    let seg = placed c.args.at c.args.bytes.now in
    let here = c.front-here.result in
    let stop = c.back-stop.result in
    let m = c.before-from.result in
    let n = c.before-to.result in
    let found = c.in_ok-patched.field-0.items in
    let low : AllWithin (λ s. s.at < here) xs 0 m = rw c.deref-3.ensures.value at c.before-from.ensures.low in
    let mid : AllWithin (λ s. here ≤ s.at) xs m (length xs) = rw c.deref-3.ensures.value at c.before-from.ensures.high in
    let near : AllWithin (λ s. s.at < stop) xs 0 n = rw c.deref-4.ensures.value at c.before-to.ensures.low in
    let high : AllWithin (λ s. stop ≤ s.at) xs n (length xs) = rw c.deref-4.ensures.value at c.before-to.ensures.high in
    let fits_m : m ≤ length xs = rw c.deref-3.ensures.value at c.before-from.ensures.bound in
    let fits_n : n ≤ length xs = rw c.deref-4.ensures.value at c.before-to.ensures.bound in
    let clean : IsClean here xs = rw c.deref.ensures.value at c.front-here.ensures.clean in
    let clean_stop : IsClean stop xs = rw c.deref-2.ensures.value at c.back-stop.ensures.clean in
    let front : AreCovered c.args.at here xs = rw c.deref.ensures.value at c.front-here.ensures.covered in
    let back : AreCovered stop (end_of seg) xs = rw c.deref-2.ensures.value at c.back-stop.ensures.covered in
    let says_found : SaysFrom (xs ++ seg ∷ []) here found = rw c.deref-5.ensures.value at c.in_ok-patched.ensures.says in
    let count : length found ≡ stop - here = c.in_ok-patched.ensures.len in
    let some : here < stop = c.if-stop-here.false in
    let le : m ≤ n = index_below xs here stop m n low high fits_m some in
    let bytes = put_bytes xs seg here stop m n found c.args.self.now.in_order low mid near high fits_m fits_n
    clean clean_stop some count front back says_found in
    rw (c.in_ok-put.ensures, c.of-piece.ensures) (
    says_put segments (flow_text c.args.self.now) seg (take m xs ++ placed here found ∷ drop n xs) bytes says)
