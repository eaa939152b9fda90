use Rattle.std.proofs.Common.{◌≡◌, ◌++◌, ◌∙◌, length, sym, ap, subst, rules}
use Rattle.std.proofs.lemmas.Iterator.Consumers.{YieldsList-at, YieldsList-turn, YieldsList-end}
use Rattle.std.proofs.lemmas.List.{map_push}
use Rattle.swim_program.specs.Lines.{input_lines}
use Rattle.std.specs.Str.Lines.{strip_carriage_return}
use Rattle.swimtab.specs.Lines.{EachLine, TellsText}
use Rattle.swimtab.proofs.LineByLine.{EachLine-push, first_wrong, no_claims_at}
use Rattle.swim_program.proofs.CountedLines.{counted_lines, first_counted, lines_counted, yielded_at}
use Rattle.swimtab.proofs.packets.packets.Goals as goal

pub returns-in-Err-clause-refuses : goal.returns-in-Err-clause-refuses
returns-in-Err-clause-refuses c = λ seen within claims each.
    let start : c.into_iter-index-iterator.result ≡ c.enumerate-index-items.result = search rules in
    let here =
    YieldsList-turn
    (YieldsList-at start
    (lines_counted c.args.input.now (c.enumerate-index-items.ensures.source ∙ c.lines_of.ensures.value)
    c.enumerate-index-items.ensures.count))
    c.loop-index.yielded _ c.loop-index.yielded_by _ _ (c.in-Some.index, c.in-Some.line) c.in-Some.is c.next.ensures.steps in
    no_claims_at (input_lines c.args.input.now) _ c.in-Some.index c.in-Some.line.now claims here
    (c.in-Err.ensures.refuses (λ e. seen (ap (λ r. r.what) c.at-in-Err.ensures ∙ e))) each

pub returns-in-Err-clause-line : goal.returns-in-Err-clause-line
returns-in-Err-clause-line c = λ seen within.
    let start : c.into_iter-index-iterator.result ≡ c.enumerate-index-items.result = search rules in
    let here =
    yielded_at
    (YieldsList-at start
    (lines_counted c.args.input.now (c.enumerate-index-items.ensures.source ∙ c.lines_of.ensures.value)
    c.enumerate-index-items.ensures.count))
    c.loop-index.yielded _ c.loop-index.yielded_by _ _ (c.in-Some.index, c.in-Some.line) c.in-Some.is c.next.ensures.steps in
    let before = first_counted c.loop-index.yielded 0 (length c.loop-index.yielded) (input_lines c.args.input.now) here.2 in
    first_wrong c.args.input.now _ (length c.loop-index.yielded) c.in-Some.index c.in-Some.line.now c.loop-index.invariant.2.0
    c.at-in-Err.result.place c.at-in-Err.result.what before (here.0, here.1) c.loop-index.invariant.2.2
    (c.in-Err.ensures.refuses (λ e. seen (ap (λ r. r.what) c.at-in-Err.ensures ∙ e)))
    (subst (TellsText (strip_carriage_return c.in-Some.line.now)) (sym (ap (λ r. r.what) c.at-in-Err.ensures))
    (c.in-Err.ensures.tells (λ e. seen (ap (λ r. r.what) c.at-in-Err.ensures ∙ e))))
    (ap (λ r. r.place) c.at-in-Err.ensures)

pub loop-index-preserved : goal.loop-index-preserved
loop-index-preserved c =
    let took = c.in_default.ensures.takes in
    let before = c.loop-index.invariant in (
      search rules,
      search rules,
      (
        before.2.0 ++ took.0,
        took.2 before.2.0 before.2.1,
        subst (λ lines. EachLine lines (before.2.0 ++ took.0))
            (sym (map_push (λ p. p.1.now) c.loop-index.yielded (c.in-Some.index, c.in-Some.line)))
            (EachLine-push _ c.in-Some.line.now before.2.0 took.0 before.2.2 took.1),
      ),
    )

pub returns-in-Ok-clause-lists : goal.returns-in-Ok-clause-lists
returns-in-Ok-clause-lists c =
    let start : c.into_iter-index-iterator.result ≡ c.enumerate-index-items.result = search rules in
    let all =
    YieldsList-end
    (YieldsList-at start
    (lines_counted c.args.input.now (c.enumerate-index-items.ensures.source ∙ c.lines_of.ensures.value)
    c.enumerate-index-items.ensures.count))
    c.loop-index.yielded _ c.loop-index.yielded_by _ _ c.in-None.is c.next.ensures.steps in
    let before = c.loop-index.invariant in (
      before.2.0,
      c.loop-index.table,
      subst (λ lines. EachLine lines before.2.0) (counted_lines c.loop-index.yielded 0 _ all.0) before.2.2,
      before.2.1,
      c.in-Ok.ensures,
    )
