use Rattle.std.proofs.Common.{◌≡◌, ◌∙◌, ◌-◌, ℕ, List, length, drop, true, Err, ap, subst}
use Rattle.std.proofs.lemmas.Result.{err_from_is_err_and}
use Rattle.swim_pack.specs.Composing.{UnlessFailed}
use Rattle.swim_pack.specs.Ends.{NoTextAtFront, ConsumesText}
use Rattle.swim_table.specs.Steps.{ReasonForBegin}
use Rattle.swim_wire.specs.declared.stream.Header.{Header}
use Rattle.swim_wire.specs.Reading.{wire_cause}
use Rattle.swim_wire.specs.Texts.{HeaderText}
use Rattle.swim_c.specs.Progressing.{progress}
use Rattle.swim_c.proofs.Faults.{memory}
use Rattle.swim_c.proofs.Pieces.{header_begun, header_missing, header_read}
use Rattle.swim_c.proofs.progress.Progress.read_header.Goals as goal

pub returns-in_err-header-clause-lacks : goal.returns-in_err-header-clause-lacks
returns-in_err-header-clause-lacks c =
    let p = err_from_is_err_and c.from_residual.result c.from_residual.ensures.1 in
    let fault = c.in_err-header.field-0.0 in let why = c.in_err-header.ensures in
    let is : c.new-inlet.result ≡ drop c.args.self.now.at c.args.bytes.now = c.new-inlet.ensures ∙ c.unread.ensures.unread in
    rw (p.1, p.2)
    (header_missing c.args.bytes.now c.args.self.now fault (λ e. why.no_memory (ap Err e)) why.exact.fault
    (subst (λ (b : List ℕ). UnlessFailed (wire_cause fault) (NoTextAtFront (memory b) (λ t. (h : Header) × HeaderText t h))) is why.lacks)
    (subst (λ (b : List ℕ). ReasonForBegin fault b) is (why.reason, why.exact.answer)) c.requires)

pub returns-clause-progress : goal.returns-clause-progress
returns-clause-progress c =
    let header = c.in_ok-header.header in
    let is : c.new-inlet.result ≡ drop c.args.self.now.at c.args.bytes.now = c.new-inlet.ensures ∙ c.unread.ensures.unread in
    header_read c.args.bytes.now c.read_header.new.inlet c.args.self.now _ header c.requires
    (subst (λ (b : List ℕ). ConsumesText (memory b) (memory c.read_header.new.inlet)
    (λ t. HeaderText t header)) is c.in_ok-header.ensures.takes)
    (λ i. progress (length c.args.bytes.now - length (c.rest.ensures i)) header.nodes header.user_len true)

pub returns-clause-begun : goal.returns-clause-begun
returns-clause-begun c =
    let header = c.in_ok-header.header in
    let is : c.new-inlet.result ≡ drop c.args.self.now.at c.args.bytes.now = c.new-inlet.ensures ∙ c.unread.ensures.unread in
    header_begun c.args.bytes.now c.read_header.new.inlet c.args.self.now _ header c.requires
    (subst (λ (b : List ℕ). ConsumesText (memory b) (memory c.read_header.new.inlet)
    (λ t. HeaderText t header)) is c.in_ok-header.ensures.takes)
    (λ i. progress (length c.args.bytes.now - length (c.rest.ensures i)) header.nodes header.user_len true)
