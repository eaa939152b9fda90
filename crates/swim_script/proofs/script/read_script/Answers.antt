use Rattle.std.proofs.Common.{◌≡◌, ◌∙◌, ◌+◌, ◌<◌, ℕ, List, map, take, length, get_or, sym, ap, subst, rules, arith}
use Rattle.std.proofs.lemmas.Iterator.Consumers.{YieldsList-at, YieldsList-turn, YieldsList-end}
use Rattle.std.proofs.iter.Serving.{serving}
use Rattle.std.proofs.lemmas.List.{length-map, map_push}
use Rattle.std.proofs.lemmas.List.FromFn.{length-enumerate_from, get_or-enumerate_from}
use Rattle.swim_program.specs.declared.report.Place.TheVariants as place
use Rattle.swim_program.specs.Lines.{input_lines}
use Rattle.swim_program.proofs.CountedLines.{counted_lines, first_counted, lines_counted, yielded_at}
use Rattle.swim_script.specs.ScriptReading.{RefusesNext}
use Rattle.swim_script.proofs.ScriptNumbers.{WereRead, none_read, read_more}
use Rattle.swim_script.proofs.ScriptRun.{was_read_whole, first_wrong_line, number_of_line, few_nodes}
use Rattle.swim_script.proofs.script.read_script.Goals as goal

pub loop-index-init : goal.loop-index-init
loop-index-init c =
    let were = none_read c.new-plan.result c.new-plan.ensures.nodes c.new-plan.ensures.events
    c.new-plan.ensures.lines c.new-plan.ensures.level in
    (grind serving, search rules, were)

pub returns-in-Err-clause-line : goal.returns-in-Err-clause-line
returns-in-Err-clause-line c = λ seen within.
    let start : c.into_iter-index-iterator.result ≡ c.enumerate-index-items.result = search rules in
    let here =
    yielded_at
    (YieldsList-at start
    (lines_counted c.args.input.now (c.enumerate-index-items.ensures.source ∙ c.lines_of.ensures.value)
    c.enumerate-index-items.ensures.count))
    c.loop-index.yielded _ c.loop-index.yielded_by _ _ (c.in-Some.index, c.in-Some.line) c.in-Some.is c.next.ensures.steps in
    let lines = input_lines c.args.input.now in
    let n = length c.loop-index.yielded in
    let before : List (List ℕ) = map (λ p. p.1.now) c.loop-index.yielded in
    let number : length before ≡ n = length-map c.loop-index.yielded (λ p. p.1.now) in
    let first : before ≡ take n lines = first_counted c.loop-index.yielded 0 n lines here.2 in
    let inside : n < length lines = omega (arith, here.0, length-enumerate_from 0 lines) in
    let line : c.in-Some.line.now ≡ get_or lines n c.in-Some.line.now =
    ap (λ p. p.1) (here.1 ∙ get_or-enumerate_from 0 lines n (c.in-Some.index, c.in-Some.line.now) inside) in
    let wrong = c.in-Err.ensures.refuses (λ e. seen (ap (λ r. r.what) c.at-in-Err.ensures ∙ e)) in
    let counted : c.in-Some.index + 1 ≡ length before + 1 = number_of_line c.loop-index.yielded lines
    c.in-Some.index c.in-Some.line.now (here.0, here.1) in
    first_wrong_line c.args.input.now before c.in-Some.line.now c.without_return.result.now c.loop-index.invariant.2.starts
    c.loop-index.plan c.at-in-Err.result.place c.at-in-Err.result.what
    (first ∙ ap (λ k. take k lines) (sym number))
    (omega (arith, inside, number))
    (line ∙ ap (λ k. get_or lines k c.in-Some.line.now) (sym number))
    c.without_return.ensures
    c.loop-index.invariant.2.was
    wrong
    (subst (RefusesNext c.loop-index.plan c.without_return.result.now) (sym (ap (λ r. r.what) c.at-in-Err.ensures))
    (c.in-Err.ensures.tells (λ e. seen (ap (λ r. r.what) c.at-in-Err.ensures ∙ e))))
    (ap (λ r. r.place) c.at-in-Err.ensures ∙ ap place.Line counted)

pub loop-index-preserved : goal.loop-index-preserved
loop-index-preserved c =
    let start : c.into_iter-index-iterator.result ≡ c.enumerate-index-items.result = search rules in
    let here =
    YieldsList-turn
    (YieldsList-at start
    (lines_counted c.args.input.now (c.enumerate-index-items.ensures.source ∙ c.lines_of.ensures.value)
    c.enumerate-index-items.ensures.count))
    c.loop-index.yielded _ c.loop-index.yielded_by _ _ (c.in-Some.index, c.in-Some.line) c.in-Some.is c.next.ensures.steps in
    let read : List (List ℕ) = map (λ p. p.1.now) c.loop-index.yielded in
    let counted : c.in-Some.index + 1 ≡ length read + 1 =
    number_of_line c.loop-index.yielded (input_lines c.args.input.now) c.in-Some.index c.in-Some.line.now here in
    let were =
    read_more read c.in-Some.line.now c.without_return.result.now (c.in-Some.index + 1) c.loop-index.plan c.take_line.new.self
    c.without_return.ensures counted c.loop-index.invariant.2 c.in_default.ensures.takes in (
      search rules,
      search rules,
      subst (λ l. WereRead l c.take_line.new.self)
          (sym (map_push (λ p. p.1.now) c.loop-index.yielded (c.in-Some.index, c.in-Some.line))) were,
    )

pub returns-clause-reads : goal.returns-clause-reads
returns-clause-reads c =
    let start : c.into_iter-index-iterator.result ≡ c.enumerate-index-items.result = search rules in
    let all =
    YieldsList-end
    (YieldsList-at start
    (lines_counted c.args.input.now (c.enumerate-index-items.ensures.source ∙ c.lines_of.ensures.value)
    c.enumerate-index-items.ensures.count))
    c.loop-index.yielded _ c.loop-index.yielded_by _ _ c.in-None.is c.next.ensures.steps in
    let were = subst (λ lines. WereRead lines c.loop-index.plan) (counted_lines c.loop-index.yielded 0 _ all.0) c.loop-index.invariant.2 in
    (were.starts, were.was.started, was_read_whole (input_lines c.args.input.now) were.starts c.loop-index.plan were.was, were.numbered)

pub returns-clause-few : goal.returns-clause-few
returns-clause-few c =
    let start : c.into_iter-index-iterator.result ≡ c.enumerate-index-items.result = search rules in
    let all =
    YieldsList-end
    (YieldsList-at start
    (lines_counted c.args.input.now (c.enumerate-index-items.ensures.source ∙ c.lines_of.ensures.value)
    c.enumerate-index-items.ensures.count))
    c.loop-index.yielded _ c.loop-index.yielded_by _ _ c.in-None.is c.next.ensures.steps in
    let were = subst (λ lines. WereRead lines c.loop-index.plan) (counted_lines c.loop-index.yielded 0 _ all.0) c.loop-index.invariant.2 in
    let nodes =
    few_nodes c.args.input.now c.loop-index.plan.nodes.items were.starts _ were.was.started
    (was_read_whole (input_lines c.args.input.now) were.starts c.loop-index.plan were.was) in
    omega (arith, nodes, c.if-input-gt-MAX_INPUT_LEN.false)
