use Rattle.std.proofs.Common.{subst, sym, arith}
use Rattle.std.proofs.lemmas.Result.{IfOk-weaker, IfErr-weaker}
use Rattle.swim_script.specs.Script.{HexBytes}
use Rattle.swim_script.proofs.Refused.{exit_with, hear_no_number, hear_no_hex, hear_no_datagram}
use Rattle.swim_script.proofs.ScriptLines.{hear_told, no_hex, no_heard}
use Rattle.swim_script.proofs.script_line.read_hear.Goals as goal

pub returns-in_err-datagram-clause-refuses : goal.returns-in_err-datagram-clause-refuses
returns-in_err-datagram-clause-refuses c = exit_with _ _ _ c.from_residual-in_err-datagram.ensures.1
    (λ seen event. no_hex c.args.fields.now _ event (omega arith) (c.in_err-datagram.ensures.tells seen).0)

pub returns-clause-reads : goal.returns-clause-reads
returns-clause-reads c =
    let hex = subst (HexBytes _) (sym c.deref.ensures.value) c.in_ok-datagram.ensures.reads in
    IfOk-weaker c.event_of_datagram.result _ _
    (λ event hears. hear_told c.args.fields.now _ _ _ event
    (omega arith) c.in_ok-node.ensures.reads hex hears)
    c.event_of_datagram.ensures.reads

pub returns-clause-refuses : goal.returns-clause-refuses
returns-clause-refuses c =
    let hex = subst (HexBytes _) (sym c.deref.ensures.value) c.in_ok-datagram.ensures.reads in
    IfErr-weaker c.event_of_datagram.result _ _
    (λ what none seen event. no_heard c.args.fields.now _ _ _ event (omega arith)
    c.in_ok-node.ensures.reads hex (none seen event))
    c.event_of_datagram.ensures.refuses

pub returns-in_err-node-clause-tells : goal.returns-in_err-node-clause-tells
returns-in_err-node-clause-tells c = exit_with _ _ _ c.from_residual.ensures.1
    (λ seen. hear_no_number c.args.fields.now _ _ (omega arith) c.in_err-node.ensures.tells)

pub returns-in_err-datagram-clause-tells : goal.returns-in_err-datagram-clause-tells
returns-in_err-datagram-clause-tells c = exit_with _ _ _ c.from_residual-in_err-datagram.ensures.1
    (λ seen. hear_no_hex c.args.fields.now _ _ _ (omega arith) c.in_ok-node.ensures.reads (c.in_err-datagram.ensures.tells seen))

pub returns-clause-tells : goal.returns-clause-tells
returns-clause-tells c =
    let hex = subst (HexBytes _) (sym c.deref.ensures.value) c.in_ok-datagram.ensures.reads in
    IfErr-weaker c.event_of_datagram.result _ _
    (λ what told seen. hear_no_datagram c.args.fields.now _ _ _ what
    (omega arith) c.in_ok-node.ensures.reads hex
    (told seen))
    c.event_of_datagram.ensures.tells
