use Rattle.std.proofs.Common.{◌≡◌, ◌∙◌, Ok, map, take, length, ap, eqb, rules, tests, arith}
use Rattle.std.proofs.lemmas.Iterator.{YieldsList-from_take}
use Rattle.std.proofs.lemmas.Iterator.Consumers.{YieldsList-at, map_from_collect}
use Rattle.std.proofs.lemmas.Iterator.Splits.{YieldsList-from_slice_split}
use Rattle.std.proofs.lemmas.List.{length-map}
use Rattle.swim_script.specs.Script.{words}
use Rattle.swim_script.proofs.ScriptWords.{take_full, take_short}
use Rattle.swim_script.proofs.script_word.split_words.Goals as goal

pub returns-then-len-gt-MAX_WORDS-clause-many : goal.returns-then-len-gt-MAX_WORDS-clause-many
returns-then-len-gt-MAX_WORDS-clause-many c = λ seen.
    let got : map (λ word. word.now) c.in_ok-words.words.items ≡ take 8 (words c.args.line.now) =
    map_from_collect {E = Unit {0}} (Ok c.in_ok-words.words) c.in_ok-words.ensures.ran
    (YieldsList-from_take 8
    (YieldsList-at c.take.ensures.source
    (YieldsList-from_slice_split _ (λ b. eqb b 32) c.args.line.now c.split.ensures.rest c.split.ensures.done
    c.split.ensures.closure (λ x r q k. search (rules, tests))))
    c.take.ensures.count) in
    let many = c.if-len-gt-MAX_WORDS.true in
    take_full 8 (words c.args.line.now)
    (omega (arith, many, c.len.ensures, c.in_ok-words.words.ok.0, ap length got, length-map c.in_ok-words.words.items (λ word. word.now)))

pub returns-clause-words : goal.returns-clause-words
returns-clause-words c =
    let got : map (λ word. word.now) c.in_ok-words.words.items ≡ take 8 (words c.args.line.now) =
    map_from_collect {E = Unit {0}} (Ok c.in_ok-words.words) c.in_ok-words.ensures.ran
    (YieldsList-from_take 8
    (YieldsList-at c.take.ensures.source
    (YieldsList-from_slice_split _ (λ b. eqb b 32) c.args.line.now c.split.ensures.rest c.split.ensures.done
    c.split.ensures.closure (λ x r q k. search (rules, tests))))
    c.take.ensures.count) in
    let few = c.if-len-gt-MAX_WORDS.false in
    got
    ∙ take_short 8 (words c.args.line.now) (omega
    (arith, few, c.len.ensures, c.in_ok-words.words.ok.0, ap length got, length-map c.in_ok-words.words.items (λ word. word.now)))
