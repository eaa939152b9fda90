use Rattle.std.proofs.Common.{[], MatchBool, subst, rules}
use Rattle.std.specs.Prelude.{◌≢◌}
use Rattle.std.proofs.lemmas.Result.{IfOk-weaker, IfErr-weaker, err_from_is_err_and}
use Rattle.memberlist_transport.specs.InTheClear.{AcceptsClear}
use Rattle.memberlist_transport.specs.Stream.{BeginsAsSealed}
use Rattle.memberlist_transport.specs.Unwrapped.{IsInsideStream as inside}
use Rattle.memberlist_transport.proofs.UnwrappedStreams.{none_wrapped, read_clear, none_clear, none_opened}
use Rattle.memberlist_transport.proofs.unwrapped_stream.unwrap_stream.Goals as goal

pub returns-in_err-message-clause-refuses : goal.returns-in_err-message-clause-refuses
returns-in_err-message-clause-refuses c =
    let exit = err_from_is_err_and c.from_residual.result c.from_residual.ensures.1 in
    rw (exit.1, exit.2)
    (λ seen. none_wrapped c.args.limit c.args.clear c.args.keys.now c.args.bytes.now (c.in_err-message.ensures.err seen))

pub returns-then-is_sealed-clause-inside : goal.returns-then-is_sealed-clause-inside
returns-then-is_sealed-clause-inside c =
    let begins : BeginsAsSealed c.in_ok-message.message.items = search rules in
    IfOk-weaker c.opened.result _ _
    (λ inner h. inside.opened h.0 (c.in_ok-message.message.items, c.in_ok-message.ensures.ok, begins) h.1 h.2) c.opened.ensures.ok

pub returns-then-is_sealed-clause-refuses : goal.returns-then-is_sealed-clause-refuses
returns-then-is_sealed-clause-refuses c =
    let begins : BeginsAsSealed c.in_ok-message.message.items = search rules in
    let some : c.args.keys.now ≢ [] = search rules in
    IfErr-weaker c.opened.result _ _
    (λ fault lacks seen. none_opened c.args.limit c.args.clear c.args.keys.now c.args.bytes.now
    c.in_ok-message.message.items c.in_ok-message.ensures.ok some begins (lacks seen))
    c.opened.ensures.err

pub returns-then-is_accepted-clause-inside : goal.returns-then-is_accepted-clause-inside
returns-then-is_accepted-clause-inside c =
    let begins : ¬ BeginsAsSealed c.in_ok-message.message.items = search rules in
    let accepted : AcceptsClear c.args.clear c.args.keys.now =
    subst (λ b. MatchBool b (AcceptsClear c.args.clear c.args.keys.now)
    (¬ AcceptsClear c.args.clear c.args.keys.now)) c.if-is_accepted.true c.is_accepted.ensures in
    read_clear c.args.limit c.args.clear c.args.keys.now c.args.bytes.now c.in_ok-message.message.items
    c.in_ok-message.ensures.ok accepted begins

pub returns-else-is_accepted-clause-refuses : goal.returns-else-is_accepted-clause-refuses
returns-else-is_accepted-clause-refuses c = λ seen.
    let begins : ¬ BeginsAsSealed c.in_ok-message.message.items = search rules in
    let refuses : ¬ AcceptsClear c.args.clear c.args.keys.now =
    subst (λ b. MatchBool b (AcceptsClear c.args.clear c.args.keys.now)
    (¬ AcceptsClear c.args.clear c.args.keys.now)) c.if-is_accepted.false c.is_accepted.ensures in
    none_clear c.args.limit c.args.clear c.args.keys.now c.args.bytes.now c.in_ok-message.message.items
    c.in_ok-message.ensures.ok refuses begins
