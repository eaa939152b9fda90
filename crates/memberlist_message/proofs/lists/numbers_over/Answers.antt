use Rattle.std.proofs.Common.{◌≡◌, ◌+◌, ◌-◌, suc, take, inl, refl, sym, ap, ◌∙◌, arith}
use Rattle.std.proofs.lemmas.Grind.{drop_more_same}
use Rattle.std.proofs.lemmas.Result.{err_from_is_err_and}
use Rattle.memberlist_message.specs.Reading.{numbers_at}
use Rattle.memberlist_message.proofs.Listed.{behind, behind_none, bad_number, one_more, written_front, written_back}
use Rattle.memberlist_message.proofs.Listed.{written_long, all_numbers, bad_list}
use Rattle.memberlist_message.proofs.lists.numbers_over.Goals as goal

pub loop-i-init : goal.loop-i-init
loop-i-init c =
    let all : c.args.count - 0 ≡ c.args.count = omega arith in
    record { inside = omega arith; same = rw all (sym (behind_none (numbers_at c.args.count c.args.bytes.now))); kept = refl }

pub returns-in_err-number : goal.returns-in_err-number
returns-in_err-number c =
    let p = err_from_is_err_and c.from_residual.result c.from_residual.ensures.1 in
    let e : c.args.count - c.loop-i.i ≡ suc (c.args.count - c.loop-i.i - 1) = omega arith in
    rw (p.1, p.2)
    (inl (bad_list _ _ _ _ (c.loop-i.invariant.same
    ∙ ap (behind (take c.loop-i.i c.loop-i.written.items))
    (bad_number _ _ _ _ e c.in_err-number.ensures.exact))))

pub put-requires : goal.put-requires
put-requires c = c.loop-i.invariant.inside

pub loop-i-preserved : goal.loop-i-preserved
loop-i-preserved c =
    let i = c.loop-i.i in
    let inside = c.loop-i.invariant.inside in
    let put = c.in_ok-put.ensures in
    let e : c.args.count - i ≡ suc (c.args.count - (i + 1)) = omega arith in
    record {
      inside = written_long i _ c.loop-i.written.items _ inside put;
      same = rw (written_front i _ c.loop-i.written.items _ inside put)
          (one_more c.args.count i _ _ _ _ _ _
          (c.loop-i.invariant.same ∙ ap (λ k. behind (take i c.loop-i.written.items)
          (numbers_at k c.loop-i.rest.now)) e)
          c.in_ok-number.ensures.exact);
      kept = written_back i _ c.loop-i.written.items _ inside put ∙ drop_more_same _ _ i c.loop-i.invariant.kept;
    }

pub returns : goal.returns
returns c =
    let same : c.args.count ≡ c.loop-i.i = omega arith in
    let none : c.args.count - c.loop-i.i ≡ 0 = omega arith in
    all_numbers c.args.count c.loop-i.i _ _ _ _ same c.loop-i.invariant.inside
    (c.loop-i.invariant.same ∙ ap (λ k. behind (take c.loop-i.i c.loop-i.written.items)
    (numbers_at k c.loop-i.rest.now)) none) c.loop-i.invariant.kept
