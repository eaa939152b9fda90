use Rattle.std.proofs.Common.{◌≡◌, ◌∙◌, ◌<◌, ◌++◌, ◌∷◌, [], map, length, sym, subst, rules}
use Rattle.std.proofs.lemmas.Iterator.Consumers.{YieldsList-at, YieldsList-end}
use Rattle.std.proofs.lemmas.List.{map_push}
use Rattle.swim_program.specs.Lines.{input_lines}
use Rattle.swim_program.proofs.CountedLines.{counted_lines, first_counted, lines_counted, yielded_at}
use Rattle.swimunwrap.specs.Lines.{AllBecome}
use Rattle.swimunwrap.specs.Unwrapped.{Shown}
use Rattle.swimunwrap.proofs.LineByLine.{AllBecome-next, too_long}
use Rattle.swimunwrap.proofs.lines.unwrap_lines.Goals as goal

pub returns-then-len-gt-MAX_INPUT_LEN-clause-large : goal.returns-then-len-gt-MAX_INPUT_LEN-clause-large
returns-then-len-gt-MAX_INPUT_LEN-clause-large c = λ seen within.
    let start : c.into_iter-index-iterator.result ≡ c.enumerate-index-items.result = search rules in
    let here =
    yielded_at
    (YieldsList-at start
    (lines_counted c.args.input.now (c.enumerate-index-items.ensures.source ∙ c.lines_of.ensures.value)
    c.enumerate-index-items.ensures.count))
    c.loop-index.yielded _ c.loop-index.yielded_by _ _ (c.in-Some.index, c.in-Some.line) c.in-Some.is c.next.ensures.steps in
    let lines = input_lines c.args.input.now in
    let before = first_counted c.loop-index.yielded 0 (length c.loop-index.yielded) lines here.2 in
    let added = c.in_default.ensures in
    let next =
    AllBecome-next c.args.clear c.args.keys.now c.args.skip lines (map (λ p. p.1.now) c.loop-index.yielded) (length c.loop-index.yielded)
    c.in-Some.index c.in-Some.line.now c.loop-index.unwrapped.text added.0 c.loop-index.unwrapped.causes added.1 before
    (here.0, here.1) c.loop-index.invariant.2 added.2 in
    let long : 268435456 < length c.add_line.new.unwrapped.text = search rules in (
      search rules,
      too_long c.args.clear c.args.keys.now c.args.skip 268435456 (length c.loop-index.yielded) lines _ _ _ next.0 next.1
          (subst (λ (s : Shown). 268435456 < length s.text) added.3 long),
    )

pub loop-index-preserved : goal.loop-index-preserved
loop-index-preserved c =
    let start : c.into_iter-index-iterator.result ≡ c.enumerate-index-items.result = search rules in
    let here =
    yielded_at
    (YieldsList-at start
    (lines_counted c.args.input.now (c.enumerate-index-items.ensures.source ∙ c.lines_of.ensures.value)
    c.enumerate-index-items.ensures.count))
    c.loop-index.yielded _ c.loop-index.yielded_by _ _ (c.in-Some.index, c.in-Some.line) c.in-Some.is c.next.ensures.steps in
    let lines = input_lines c.args.input.now in
    let before = first_counted c.loop-index.yielded 0 (length c.loop-index.yielded) lines here.2 in
    let added = c.in_default.ensures in
    let next =
    AllBecome-next c.args.clear c.args.keys.now c.args.skip lines (map (λ p. p.1.now) c.loop-index.yielded) (length c.loop-index.yielded)
    c.in-Some.index c.in-Some.line.now c.loop-index.unwrapped.text added.0 c.loop-index.unwrapped.causes added.1 before
    (here.0, here.1) c.loop-index.invariant.2 added.2 in
    let shown =
    subst
    (λ (s : Shown). AllBecome c.args.clear c.args.keys.now c.args.skip
    (map (λ p. p.1.now) c.loop-index.yielded ++ c.in-Some.line.now ∷ []) s.text s.causes)
    (sym added.3) next.1 in (
      search rules,
      search rules,
      subst (λ read. AllBecome c.args.clear c.args.keys.now c.args.skip read c.add_line.new.unwrapped.text c.add_line.new.unwrapped.causes)
          (sym (map_push (λ p. p.1.now) c.loop-index.yielded (c.in-Some.index, c.in-Some.line))) shown,
      search rules,
    )

pub returns-clause-each : goal.returns-clause-each
returns-clause-each c =
    let start : c.into_iter-index-iterator.result ≡ c.enumerate-index-items.result = search rules in
    let all =
    YieldsList-end
    (YieldsList-at start
    (lines_counted c.args.input.now (c.enumerate-index-items.ensures.source ∙ c.lines_of.ensures.value)
    c.enumerate-index-items.ensures.count))
    c.loop-index.yielded _ c.loop-index.yielded_by _ _ c.in-None.is c.next.ensures.steps in
    subst (λ lines. AllBecome c.args.clear c.args.keys.now c.args.skip lines c.loop-index.unwrapped.text c.loop-index.unwrapped.causes)
    (counted_lines c.loop-index.yielded 0 _ all.0) c.loop-index.invariant.2
