use Rattle.std.proofs.Common.{◌≡◌, ◌^◌, ◌<◌, ◌≤◌, ◌++◌, length, take, drop, sym, ap, ◌∙◌, arith, rules}
use Rattle.std.proofs.lemmas.Fn.{filter_same}
use Rattle.std.specs.List.{filter}
use Rattle.memberlist_member.proofs.Sending.{count_one, counted, kept_all, part_all, pass_one, put_back, stays}
use Rattle.memberlist_member.proofs.queue.count.Goals.{then-contains, else-contains}
use Rattle.memberlist_member.proofs.queue.count.Goals as goal

pub loop-broadcast-preserved : goal.loop-broadcast-preserved
loop-broadcast-preserved c =
    let old = c.args.waiting.now.items in
    let ids = c.args.ids.now in
    let items = c.loop-broadcast.broadcast-items in
    let i = c.loop-broadcast.broadcast-index in
    let b = c.broadcast-item.result in
    let long : length c.deref_mut-broadcast-items.result.now ≡ length old = ap length c.deref_mut-broadcast-items.ensures.value in
    let within : i < length old = omega (arith, c.loop-broadcast-test.true, long) in
    elim c.if-contains.branch [
      | then-contains w ↦ w.broadcast-items-is ∙ count_one ids old items i b w.saturating_add-broadcast.result c.loop-broadcast.invariant within
          (sym c.contains.ensures.value ∙ w.if-contains.true) w.saturating_add-broadcast.ensures
      | else-contains w ↦ w.broadcast-items-is ∙ pass_one ids old items i b c.loop-broadcast.invariant within
          (sym c.contains.ensures.value ∙ w.if-contains.false)
    ]

pub returns : goal.returns
returns c =
    let old = c.args.waiting.now.items in
    let ids = c.args.ids.now in
    let long : length c.deref_mut-broadcast-items.result.now ≡ length old = ap length c.deref_mut-broadcast-items.ensures.value in
    let all : length old ≤ c.loop-broadcast.broadcast-index = omega (arith, c.loop-broadcast-test.false, long) in
    let items = c.loop-broadcast.broadcast-items in
    let whole : take c.args.waiting.now.len (items ++ drop (length items) old) ≡ items =
    put_back c.args.waiting.now.len items old (omega (arith, c.args.waiting.now.ok.0)) (omega (arith, c.loop-broadcast.auto.broadcast-items, long)) in
    let kept : c.retain.new.self.items ≡ filter (stays c.args.limit ids) (take c.args.waiting.now.len (items ++ drop (length items) old)) =
    filter_same _ (stays c.args.limit ids) _ (λ x b f k. search rules) _ _ c.retain.ensures.filtered in
    let small : c.args.limit < 2 ^ 32 = omega (arith, c.ranges.limit) in
    kept ∙ ap (filter (stays c.args.limit ids)) (whole ∙ c.loop-broadcast.invariant ∙ part_all (counted ids) c.loop-broadcast.broadcast-index old all)
    ∙ kept_all c.args.limit small ids old
