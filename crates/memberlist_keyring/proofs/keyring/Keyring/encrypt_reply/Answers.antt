use Rattle.std.proofs.Common.{drop, ◌∙◌}
use Rattle.memberlist_keyring.proofs.Labels.{stream_bare}
use Rattle.memberlist_keyring.proofs.Sendings.{first_is, sends_bare, opens_reply_first}
use Rattle.memberlist_keyring.proofs.keyring.Keyring.encrypt_reply.Goals as goal

pub returns-clause-sends : goal.returns-clause-sends
returns-clause-sends c =
    let item = c.in-Some.ensures.item in
    let parts = first_is c.deref.result.now c.args.self.now c.in-Some.key.now (c.deref.ensures.value ∙ c.self.view_is) item.3.0 item.1 in
    sends_bare _ c.args.self.now c.in-Some.key.now (drop 1 c.deref.result.now) c.in_ok-bytes.bytes.items parts c.in_ok-bytes.ensures.bytes
    (stream_bare _ _ _ _ c.in_ok-bytes.ensures.encrypts)

pub returns-clause-opens : goal.returns-clause-opens
returns-clause-opens c =
    let item = c.in-Some.ensures.item in
    let parts = first_is c.deref.result.now c.args.self.now c.in-Some.key.now (c.deref.ensures.value ∙ c.self.view_is) item.3.0 item.1 in
    opens_reply_first c.args.self.now c.in-Some.key.now
    (drop 1 c.deref.result.now) c.args.label.now c.in_ok-bytes.bytes.items c.args.message.now parts
    (stream_bare _ _ _ _ c.in_ok-bytes.ensures.encrypts) c.in_ok-bytes.ensures.encrypts
