use Rattle.std.proofs.Common.{◌≡◌, ◌≤◌, ◌^◌, ◌+◌, ◌++◌, ◌∷◌, [], nat_lt, length, sym, ◌∙◌, ap, arith, rules, length-append}
use Rattle.std.specs.Prelude.{None, find, filter}
use Rattle.std.proofs.lemmas.Fn.{filter_same}
use Rattle.capture.specs.Flows.{placed, covers, byte_at, InOrder, SaysFrom}
use Rattle.capture.specs.FlowTexts.{flow_text}
use Rattle.capture.proofs.Queued.{follows, in_order, order_filter}
use Rattle.capture.proofs.Saying.{says_joined, joined_tight}
use Rattle.capture.proofs.flow.Flow.join.Goals as goal

pub invariant_of-self-2 : goal.invariant_of-self-2
invariant_of-self-2 c =
    let old = c.args.self.now in
    let seg = placed c.args.at c.args.bytes.now in
    let more = c.in_ok-more.more.items in
    let text = c.extend_from_slice.new.self in
    let gap = c.len-gap.result in
    let items : text.items ≡ old.text.items ++ more = rw (sym c.deref-2.ensures.value) c.in_ok-extend_from_slice.ensures.items in
    let here : c.len.result ≡ length old.text.items = omega (arith, c.len.ensures, old.text.ok.0) in
    let gap_is : gap ≡ length text.items = omega (arith, c.len-gap.ensures, text.ok.0) in
    let long : length text.items ≡ length old.text.items + length more = ap length items ∙ length-append old.text.items more in
    let none : find (covers (length old.text.items + length more)) (old.waiting.items ++ seg ∷ []) ≡ None =
    rw (sym here, sym c.deref.ensures.value) c.in_ok-more.ensures.gap in
    let clear : find (covers gap) (old.waiting.items ++ seg ∷ []) ≡ None = rw (gap_is, long) none in
    let kept : c.retain.new.self.items ≡ filter (λ s. nat_lt gap s.at) old.waiting.items =
    filter_same _ (λ s. nat_lt gap s.at) _ (λ x b f k. search rules) _ _ c.retain.ensures.filtered in
    let tight : byte_at gap c.retain.new.self.items ≡ None =
    joined_tight old.waiting.items c.retain.new.self.items seg gap clear kept in
    let most : length old.text.items + length more ≤ 2 ^ 25 = omega (arith, here, c.in_ok-more.ensures.most) in
    let few : length c.retain.new.self.items ≤ 4096 =
    omega (arith, c.retain.ensures.bound, c.retain.new.self.ok.0, old.waiting.ok.0, old.few) in
    let order : InOrder c.retain.new.self.items =
    rw kept (in_order (filter (λ s. nat_lt gap s.at) old.waiting.items)
    (order_filter (λ s. nat_lt gap s.at) old.waiting.items (follows old.waiting.items old.in_order))) in
    record { tight = rw (sym gap_is) tight; short = rw long most; in_order = order; few = few }

pub gathered-requires-clause-in_order : goal.gathered-requires-clause-in_order
gathered-requires-clause-in_order c = rw c.deref.ensures.value c.args.self.now.in_order

pub returns-clause-ok : goal.returns-clause-ok
returns-clause-ok c = λ segments says.
    let old = c.args.self.now in
    let seg = placed c.args.at c.args.bytes.now in
    let more = c.in_ok-more.more.items in
    let text = c.extend_from_slice.new.self in
    let gap = c.len-gap.result in
    let items : text.items ≡ old.text.items ++ more = rw (sym c.deref-2.ensures.value) c.in_ok-extend_from_slice.ensures.items in
    let here : c.len.result ≡ length old.text.items = omega (arith, c.len.ensures, old.text.ok.0) in
    let gap_is : gap ≡ length text.items = omega (arith, c.len-gap.ensures, text.ok.0) in
    let long : length text.items ≡ length old.text.items + length more = ap length items ∙ length-append old.text.items more in
    let none : find (covers (length old.text.items + length more)) (old.waiting.items ++ seg ∷ []) ≡ None =
    rw (sym here, sym c.deref.ensures.value) c.in_ok-more.ensures.gap in
    let next : SaysFrom (old.waiting.items ++ seg ∷ []) (length old.text.items) more =
    rw (sym here, sym c.deref.ensures.value) c.in_ok-more.ensures.says in
    let kept : c.retain.new.self.items ≡ filter (λ s. nat_lt gap s.at) old.waiting.items =
    filter_same _ (λ s. nat_lt gap s.at) _ (λ x b f k. search rules) _ _ c.retain.ensures.filtered in
    rw items (
    says_joined segments (flow_text old) seg more c.retain.new.self.items gap c.requires.touches (gap_is ∙ long) next none kept says)
