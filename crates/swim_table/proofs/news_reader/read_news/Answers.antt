use Rattle.std.proofs.Common.{◌-◌, sym, subst, arith}
use Rattle.std.proofs.lemmas.Result.{err_from_is_err_and}
use Rattle.swim_pack.proofs.Ends.{Advances-trans}
use Rattle.tiered_vec.specs.Tiers.{IsPlaceOf}
use Rattle.swim_table.specs.News.{TakesNews}
use Rattle.swim_table.specs.Table.{Reduced, TableOf}
use Rattle.swim_table.proofs.ReadingNews.{begun_news, read_more, read_all, no_record, no_user, record_reason, memory_reason, state_reason}
use Rattle.swim_table.proofs.news_reader.read_news.Goals as goal

pub loop-left-init : goal.loop-left-init
loop-left-init g c = record {
  some =
      begun_news (g.I.Inlet.seen c.args.inlet.now) (g.I.Inlet.seen c.begin.new.inlet) c.in_ok-begin.field-0 c.header-header.result.now
      c.args.table.now c.new-news.result c.header-header.ensures c.new-news.ensures c.in_ok-begin.ensures.takes c.len.ensures.legal.own;
  next = subst (λ i. IsPlaceOf c.tiers-entries.result.now.blocks i c.place-next.result)
      (sym c.place-next.ensures.index) c.place-next.ensures;
  end = c.begin.ensures.end;
}

pub returns-in_err-claim-clause-lacks : goal.returns-in_err-claim-clause-lacks
returns-in_err-claim-clause-lacks g c =
    let p = err_from_is_err_and c.from_residual-in_err-claim.result c.from_residual-in_err-claim.ensures.1 in
    rw (p.1, p.2)
    (no_record (g.I.Inlet.seen c.args.inlet.now) (g.I.Inlet.seen c.loop-left.inlet) c.header-header.result.now c.loop-left.left
    c.args.table.now c.loop-left.news c.loop-left.invariant.some c.in_err-claim.field-0.0
    (omega (arith, c.loop-left-test.true)) c.in_err-claim.ensures.lacks)

pub returns-in_err-claim-clause-reason : goal.returns-in_err-claim-clause-reason
returns-in_err-claim-clause-reason g c =
    let p = err_from_is_err_and c.from_residual-in_err-claim.result c.from_residual-in_err-claim.ensures.1 in
    rw (p.1, p.2)
    (record_reason (g.I.Inlet.seen c.args.inlet.now) (g.I.Inlet.seen c.loop-left.inlet) c.header-header.result.now c.loop-left.left
    c.args.table.now c.loop-left.news c.loop-left.invariant.some c.in_err-claim.field-0.0 (g.I.Inlet.seen c.read_state.new.inlet)
    (omega (arith, c.loop-left-test.true)) c.in_err-claim.ensures.reason c.in_err-claim.ensures.exact)

pub returns-in_err-claim-clause-end : goal.returns-in_err-claim-clause-end
returns-in_err-claim-clause-end g c =
    Advances-trans _ _ _ c.loop-left.invariant.end (c.read_state.ensures.exact.rest, c.read_state.ensures.exact.faults_stay)

pub returns-in_err-next-clause-reason : goal.returns-in_err-next-clause-reason
returns-in_err-next-clause-reason g c =
    let p = err_from_is_err_and c.from_residual-in_err-next.result c.from_residual-in_err-next.ensures.1 in
    rw (p.1, p.2, c.in_err-next.ensures.memory)
    (memory_reason (g.I.Inlet.seen c.args.inlet.now) (g.I.Inlet.seen c.loop-left.inlet) c.header-header.result.now c.loop-left.left
    c.args.table.now c.loop-left.news c.loop-left.invariant.some (g.I.Inlet.seen c.read_state.new.inlet) c.in_ok-claim.claim
    (omega (arith, c.loop-left-test.true)) c.in_ok-claim.ensures.takes)

pub returns-in_err-next-clause-end : goal.returns-in_err-next-clause-end
returns-in_err-next-clause-end g c =
    Advances-trans _ _ _ c.loop-left.invariant.end (c.read_state.ensures.exact.rest, c.read_state.ensures.exact.faults_stay)

pub loop-left-preserved : goal.loop-left-preserved
loop-left-preserved g c = record {
  some =
      read_more (g.I.Inlet.seen c.args.inlet.now) (g.I.Inlet.seen c.loop-left.inlet) (g.I.Inlet.seen c.read_state.new.inlet)
      c.header-header.result.now c.loop-left.left
      (c.loop-left.left - 1) c.args.table.now c.loop-left.news c.take_news.new.news
      c.in_ok-claim.claim
      c.loop-left.invariant.some (omega (arith, c.loop-left-test.true)) c.in_ok-claim.ensures.takes c.len.ensures.legal.own
      (subst (λ t. TableOf t (Reduced t)) c.news.view_is c.news.invariant.own)
      (subst (λ t. TakesNews t c.loop-left.news c.take_news.new.news c.in_ok-claim.claim)
      c.tiers-entries.ensures.entries c.in_ok-next.ensures.takes);
  next = c.in_ok-next.ensures.next;
  end = Advances-trans _ _ _ c.loop-left.invariant.end (c.read_state.ensures.exact.rest, c.read_state.ensures.exact.faults_stay);
}

pub returns-in_err-skip_user-clause-lacks : goal.returns-in_err-skip_user-clause-lacks
returns-in_err-skip_user-clause-lacks g c =
    let p = err_from_is_err_and c.from_residual-in_err-skip_user.result c.from_residual-in_err-skip_user.ensures.1 in
    rw (p.1, p.2)
    (no_user (g.I.Inlet.seen c.args.inlet.now) (g.I.Inlet.seen c.loop-left.inlet) c.header-header.result.now c.loop-left.left
    c.args.table.now c.loop-left.news c.loop-left.invariant.some c.in_err-skip_user.field-0.0
    (omega (arith, c.loop-left-test.false)) c.in_err-skip_user.ensures.lacks)

pub returns-in_err-skip_user-clause-reason : goal.returns-in_err-skip_user-clause-reason
returns-in_err-skip_user-clause-reason g c =
    let p = err_from_is_err_and c.from_residual-in_err-skip_user.result c.from_residual-in_err-skip_user.ensures.1 in
    rw (p.1, p.2)
    (state_reason (g.I.Inlet.seen c.args.inlet.now) (g.I.Inlet.seen c.loop-left.inlet) c.header-header.result.now c.loop-left.left
    c.args.table.now c.loop-left.news c.loop-left.invariant.some c.in_err-skip_user.field-0.0 (omega (arith, c.loop-left-test.false))
    c.in_err-skip_user.ensures.refusals c.in_err-skip_user.ensures.lacks)

pub returns-in_err-skip_user-clause-end : goal.returns-in_err-skip_user-clause-end
returns-in_err-skip_user-clause-end g c = Advances-trans _ _ _ c.loop-left.invariant.end c.skip_user.ensures.end

pub returns-clause-takes : goal.returns-clause-takes
returns-clause-takes g c =
    read_all (g.I.Inlet.seen c.args.inlet.now) (g.I.Inlet.seen c.loop-left.inlet)
    (g.I.Inlet.seen c.skip_user.new.inlet) c.header-header.result.now
    c.loop-left.left c.args.table.now c.loop-left.news c.loop-left.invariant.some
    (omega (arith, c.loop-left-test.false)) c.in_ok-skip_user.ensures.takes

pub returns-clause-end : goal.returns-clause-end
returns-clause-end g c = Advances-trans _ _ _ c.loop-left.invariant.end c.skip_user.ensures.end
