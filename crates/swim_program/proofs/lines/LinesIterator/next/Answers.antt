use Rattle.std.proofs.Common.{◌≡◌, ◌+◌, ◌-◌, ◌∷◌, length, take, drop, sym, ap, subst, ◌∙◌, arith}
use Rattle.std.proofs.lemmas.List.{take_rest}
use Rattle.memchr.specs.Find.{IsFirstByte, is_byte}
use Rattle.swim_program.specs.Lines.{input_lines, lines_left}
use Rattle.swim_program.proofs.LineFeeds.{first_line, one_line}
use Rattle.swim_program.proofs.lines.LinesIterator.next.Goals as goal

-- the first line, and those after its line feed
first : (c : goal.After-self-in-Some-1) → c.args.self.now ≡ take c.in-Some.end c.in_ok-rest.rest.now
    ∷ input_lines (take (length c.in_ok-rest.rest.now - (c.in-Some.end + 1)) (drop (c.in-Some.end + 1) c.in_ok-rest.rest.now))
first c =
    let rest = c.in_ok-rest.rest.now in
    let end = c.in-Some.end in
    sym c.self.view_is ∙ ap lines_left c.in_ok-rest.was
    ∙ first_line rest end (subst (λ r. IsFirstByte (is_byte 10) rest r) c.in-Some.is c.memchr.ensures)
    ∙ ap (λ behind. take end rest ∷ input_lines behind) (sym (take_rest rest (end + 1)))

pub returns-in-Some-clause-steps : goal.returns-in-Some-clause-steps
returns-in-Some-clause-steps c = first c

pub returns-in-Some-clause-goes : goal.returns-in-Some-clause-goes
returns-in-Some-clause-goes c = record { on = λ _. (tt, tt, omega (arith, ap length (first c))); keeps = tt; rests = λ _. tt }

pub returns-in-None-clause-steps : goal.returns-in-None-clause-steps
returns-in-None-clause-steps c =
    let rest = c.in_ok-rest.rest.now in
    sym c.self.view_is ∙ ap lines_left c.in_ok-rest.was
    ∙ one_line rest (subst (λ r. IsFirstByte (is_byte 10) rest r) c.in-None.is c.memchr.ensures)
