use Rattle.std.proofs.Common.{◌≡◌, inr, map, sym, subst, eqb, rules}
use Rattle.std.proofs.lemmas.Iterator.Consumers.{YieldsList-at, YieldsList-from_enumerate, YieldsList-end}
use Rattle.std.proofs.lemmas.Iterator.Splits.{YieldsList-from_slice_split}
use Rattle.std.proofs.lemmas.List.{map_push}
use Rattle.std.proofs.lemmas.Result.{err_from_is_err_and}
use Rattle.memberlist_keyring.specs.KeyFile.{HoldInOrder, LineHolds, lines_of}
use Rattle.memberlist_keyring.proofs.Holding.{HoldInOrder-push}
use Rattle.memberlist_keyring.proofs.Lines.{counted_lines, first_wrong_line, sized_line}
use Rattle.memberlist_keyring.proofs.key_file.keys_of_lines.Goals as goal

pub returns-then-not-branch-clause-err : goal.returns-then-not-branch-clause-err
returns-then-not-branch-clause-err c =
    let start : c.into_iter-i-iterator.result ≡ c.enumerate-i-items.result = search rules in
    let lacks = rw c.if-not-branch.true at c.in_ok-add_line.ensures.adds in (
      c.requires,
      first_wrong_line LineHolds (lines_of c.args.text.now)
          (YieldsList-at start
          (YieldsList-from_enumerate
          (YieldsList-at c.enumerate-i-items.ensures.source
          (YieldsList-from_slice_split _ (λ b. eqb b 10) c.args.text.now c.split.ensures.rest c.split.ensures.done
          c.split.ensures.closure (λ x r q k. search rules)))
          c.enumerate-i-items.ensures.count))
          c.loop-i.yielded _ c.loop-i.yielded_by _ _ (c.in-Some.i, c.in-Some.line) c.in-Some.is c.next.ensures.steps
          c.loop-i.keys.items c.loop-i.invariant.2 lacks,
    )

pub returns-in_err-add_line-clause-err : goal.returns-in_err-add_line-clause-err
returns-in_err-add_line-clause-err c =
    let start : c.into_iter-i-iterator.result ≡ c.enumerate-i-items.result = search rules in
    let exit = err_from_is_err_and c.from_residual.result c.from_residual.ensures.1 in
    rw (exit.1, exit.2) (inr (sized_line (lines_of c.args.text.now)
    (YieldsList-at start
    (YieldsList-from_enumerate
    (YieldsList-at c.enumerate-i-items.ensures.source
    (YieldsList-from_slice_split _ (λ b. eqb b 10) c.args.text.now c.split.ensures.rest c.split.ensures.done
    c.split.ensures.closure (λ x r q k. search rules)))
    c.enumerate-i-items.ensures.count))
    c.loop-i.yielded _ c.loop-i.yielded_by _ _ (c.in-Some.i, c.in-Some.line) c.in-Some.is c.next.ensures.steps
    c.loop-i.keys.items c.loop-i.invariant.2 c.in_err-add_line.ensures.memory))

pub loop-i-preserved : goal.loop-i-preserved
loop-i-preserved c =
    let good = rw c.if-not-branch.false at c.in_ok-add_line.ensures.adds in (
      search rules,
      search rules,
      subst (λ lines. HoldInOrder LineHolds lines c.add_line.new.keys.items)
          (sym (map_push (λ p. p.1.now) c.loop-i.yielded (c.in-Some.i, c.in-Some.line)))
          (rw good.2 (HoldInOrder-push LineHolds (map (λ p. p.1.now) c.loop-i.yielded) c.in-Some.line.now c.loop-i.keys.items good.0
          c.loop-i.invariant.2 good.1)),
    )

pub returns-clause-ok : goal.returns-clause-ok
returns-clause-ok c =
    let start : c.into_iter-i-iterator.result ≡ c.enumerate-i-items.result = search rules in
    let all =
    YieldsList-end
    (YieldsList-at start
    (YieldsList-from_enumerate
    (YieldsList-at c.enumerate-i-items.ensures.source
    (YieldsList-from_slice_split _ (λ b. eqb b 10) c.args.text.now c.split.ensures.rest c.split.ensures.done
    c.split.ensures.closure (λ x r q k. search rules)))
    c.enumerate-i-items.ensures.count))
    c.loop-i.yielded _ c.loop-i.yielded_by _ _ c.in-None.is c.next.ensures.steps in
    subst (λ lines. HoldInOrder LineHolds lines c.loop-i.keys.items) (counted_lines c.loop-i.yielded 0 _ all.0) c.loop-i.invariant.2
