use Rattle.std.proofs.Common.{◌≡◌, ◌∙◌, ◌-◌, ℕ, List, length, drop, arith, subst}
use Rattle.std.proofs.lemmas.Result.{err_from_is_err_and}
use Rattle.swim_claim.specs.declared.claim.Claim.{Claim}
use Rattle.swim_pack.specs.Composing.{UnlessFailed}
use Rattle.swim_pack.specs.Ends.{NoTextAtFront, ConsumesText}
use Rattle.swim_table.specs.Steps.{ReasonForRecord}
use Rattle.swim_wire.specs.Reading.{wire_cause}
use Rattle.swim_wire.specs.Texts.{StateText}
use Rattle.swim_c.specs.Progressing.{StopsAt, progress}
use Rattle.swim_c.proofs.Faults.{memory}
use Rattle.swim_c.proofs.Pieces.{record_missing, record_read, record_taken}
use Rattle.swim_c.proofs.progress.Progress.take_record.Goals as goal

pub returns-in_err-claim-clause-lacks : goal.returns-in_err-claim-clause-lacks
returns-in_err-claim-clause-lacks c =
    let p = err_from_is_err_and c.from_residual.result c.from_residual.ensures.1 in
    let fault = c.in_err-claim.field-0.0 in let why = c.in_err-claim.ensures in
    let is : c.new-inlet.result ≡ drop c.args.self.now.at c.args.bytes.now = c.new-inlet.ensures ∙ c.unread.ensures.unread in
    rw (p.1, p.2)
    (λ at no_memory. record_missing c.args.bytes.now c.args.self.now fault no_memory why.exact.fault
    (subst (λ (b : List ℕ). UnlessFailed (wire_cause fault) (NoTextAtFront (memory b) (λ t. (r : Claim) × StateText t r))) is why.lacks)
    (subst (λ (b : List ℕ). ReasonForRecord fault b) is (why.reason, why.exact.answer)) c.requires.header c.requires.left at)

pub returns-in_err-claim-clause-stops : goal.returns-in_err-claim-clause-stops
returns-in_err-claim-clause-stops c =
    let p = err_from_is_err_and c.from_residual.result c.from_residual.ensures.1 in
    let fault = c.in_err-claim.field-0.0 in let why = c.in_err-claim.ensures in
    let is : c.new-inlet.result ≡ drop c.args.self.now.at c.args.bytes.now = c.new-inlet.ensures ∙ c.unread.ensures.unread in
    rw (p.1, p.2)
    (StopsAt.record_of c.requires.header c.requires.left
    (subst (λ (b : List ℕ). ReasonForRecord fault b) is (why.reason, why.exact.answer)))

pub returns-clause-progress : goal.returns-clause-progress
returns-clause-progress c =
    let claim = c.in_ok-claim.claim in let old = c.args.self.now in let some = c.requires.left in
    let is : c.new-inlet.result ≡ drop old.at c.args.bytes.now = c.new-inlet.ensures ∙ c.unread.ensures.unread in
    record_read c.args.bytes.now c.read_state.new.inlet old _ claim c.requires.header (omega (arith, some))
    (subst (λ (b : List ℕ). ConsumesText (memory b) (memory c.read_state.new.inlet)
    (λ t. StateText t claim)) is c.in_ok-claim.ensures.takes)
    (λ i. progress (length c.args.bytes.now - length (c.rest.ensures i)) (old.left - 1) old.user_len (c.requires.header i))

pub returns-clause-takes : goal.returns-clause-takes
returns-clause-takes c =
    let claim = c.in_ok-claim.claim in let old = c.args.self.now in
    let is : c.new-inlet.result ≡ drop old.at c.args.bytes.now = c.new-inlet.ensures ∙ c.unread.ensures.unread in
    record_taken c.args.bytes.now c.read_state.new.inlet old _ claim c.requires.left
    (subst (λ (b : List ℕ). ConsumesText (memory b) (memory c.read_state.new.inlet)
    (λ t. StateText t claim)) is c.in_ok-claim.ensures.takes)
    (λ i. progress (length c.args.bytes.now - length (c.rest.ensures i)) (old.left - 1) old.user_len (c.requires.header i))
