use Rattle.std.proofs.Common.{◌≡◌, ◌+◌, ◌-◌, ◌^◌, ◌<◌, ◌≤◌, [], ◌∷◌, ◌++◌, map, length, refl, sym, ap, ◌∙◌, arith}
use Rattle.std.proofs.lemmas.List.Elements.{same_from_all_zip}
use Rattle.std.proofs.lemmas.Option.{slice_get_read}
use Rattle.memberlist_member.proofs.Picking.{enough, found_fits, map_push, no_more, none_picked, picked_found, picking_same}
use Rattle.memberlist_member.proofs.queue.Queue.picks.Goals.{else-loop-test, then-loop-test+in_default}
use Rattle.memberlist_member.proofs.queue.Queue.picks.Goals as goal

pub loop-init : goal.loop-init
loop-init c =
    picking_same _ _ _ _ _ _ _ _ _ _ _ _ refl (sym c.new-ids.ensures.items) (sym (ap (λ l. map (λ p. p.items) l) c.new-parts.ensures.items))
    (none_picked c.args.overhead c.args.room c.args.most c.args.self.now.waiting.items)

pub next_after-requires : goal.next_after-requires
next_after-requires c = c.loop.invariant.there

pub overflow_add-left : goal.overflow_add-left
overflow_add-left c =
    let waiting = c.args.self.now.waiting.items in
    let b = c.index-broadcast.result.now in
    let there = slice_get_read waiting (length waiting) c.in-Some.index b refl c.in-Some.ensures.there c.index-broadcast.ensures in
    let fits : c.args.overhead + length b.bytes.items ≤ c.loop.left = found_fits waiting c.loop.last c.args.overhead c.loop.left (length waiting) c.in-Some.index b there c.in-Some.ensures.best in
    let small : c.loop.left < 2 ^ 64 = omega (arith, c.loop.auto.left-fits) in
    omega (arith, fits, small, c.len.ensures, b.bytes.ok.0)

pub overflow_sub-left : goal.overflow_sub-left
overflow_sub-left c =
    let waiting = c.args.self.now.waiting.items in
    let b = c.index-broadcast.result.now in
    let there = slice_get_read waiting (length waiting) c.in-Some.index b refl c.in-Some.ensures.there c.index-broadcast.ensures in
    let fits : c.args.overhead + length b.bytes.items ≤ c.loop.left = found_fits waiting c.loop.last c.args.overhead c.loop.left (length waiting) c.in-Some.index b there c.in-Some.ensures.best in
    omega (arith, fits, c.len.ensures, b.bytes.ok.0)

pub loop-preserved : goal.loop-preserved
loop-preserved c =
    let waiting = c.args.self.now.waiting.items in
    let b = c.index-broadcast.result.now in
    let there = slice_get_read waiting (length waiting) c.in-Some.index b refl c.in-Some.ensures.there c.index-broadcast.ensures in
    let next = picked_found c.args.overhead c.args.room c.args.most waiting c.args.self.now.distinct c.loop.last c.loop.left c.loop.counter
    c.loop.ids.items (map (λ p. p.items) c.loop.parts.items) c.loop.invariant c.loop-test.true c.in-Some.index b there c.in-Some.ensures.best in
    let copied : c.in_ok-to_vec.field-0.items ≡ b.bytes.items = same_from_all_zip _ _ _ c.in_ok-to_vec.ensures.ok (λ x y e. e) ∙ c.deref.ensures.value in
    let len : c.len.result ≡ length b.bytes.items = omega (arith, c.len.ensures, b.bytes.ok.0) in
    picking_same _ _ _ _ _ _ _ _ _ _ _ _ (ap (λ n. c.loop.left - (c.args.overhead + n)) (sym len))
    (sym c.in_ok-push-2.ensures.items)
    (ap (λ l. map (λ p. p.items) c.loop.parts.items ++ l ∷ []) (sym copied)
    ∙ map_push (λ p. p.items) c.loop.parts.items c.in_ok-to_vec.field-0
    ∙ sym (ap (λ l. map (λ p. p.items) l) c.in_ok-push.ensures.items))
    next

pub returns : goal.returns
returns c =
    let waiting = c.args.self.now.waiting.items in
    elim c.loop-test.branch [
      | else-loop-test w ↦ enough c.args.overhead c.args.room c.args.most waiting c.args.self.now.distinct c.loop.last c.loop.left c.loop.counter
          c.loop.ids.items (map (λ p. p.items) c.loop.parts.items) c.loop.invariant w.loop-test.false
      | then-loop-test+in_default w ↦ no_more c.args.overhead c.args.room c.args.most waiting c.args.self.now.distinct c.loop.last c.loop.left c.loop.counter
          c.loop.ids.items (map (λ p. p.items) c.loop.parts.items) c.loop.invariant w.in_default.ensures.best
    ]
