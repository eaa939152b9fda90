use Rattle.std.proofs.Common.{◌≡◌, ◌≤◌, length, sym, arith, rules}
use Rattle.capture.specs.Flows.{placed, end_of}
use Rattle.capture.specs.FlowTexts.{flow_text}
use Rattle.capture.proofs.Saying.{says_bare, says_old}
use Rattle.capture.proofs.flow.Flow.take.Goals as goal

pub returns-then-is_empty-clause-counts : goal.returns-then-is_empty-clause-counts
returns-then-is_empty-clause-counts c = λ _ segments says.
    let seg = placed c.place-at.result.0 c.place-at.result.1.now in
    let bare : length c.place-at.result.1.now ≡ 0 = search rules in
    rw (sym c.place-at.ensures.is) (says_bare segments (flow_text c.args.self.now) seg bare says)

pub returns-then-end-len-clause-counts : goal.returns-then-end-len-clause-counts
returns-then-end-len-clause-counts c = λ _ segments says.
    let seg = placed c.place-at.result.0 c.place-at.result.1.now in
    let old : end_of seg ≤ length c.args.self.now.text.items =
    omega (arith, c.if-end-len.true, c.len.ensures, c.args.self.now.text.ok.0) in
    rw (sym c.place-at.ensures.is) (says_old segments (flow_text c.args.self.now) seg old says)

pub returns-then-at-len-clause-counts : goal.returns-then-at-len-clause-counts
returns-then-at-len-clause-counts c = λ _ segments says.
    rw (sym c.place-at.ensures.is) (c.in_ok-join.ensures.ok segments says)

pub returns-clause-counts : goal.returns-clause-counts
returns-clause-counts c = rw (sym c.place-at.ensures.is) c.hold.ensures.counts
