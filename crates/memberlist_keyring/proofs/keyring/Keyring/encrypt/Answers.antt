use Rattle.std.proofs.Common.{drop, ◌∙◌}
use Rattle.memberlist_keyring.proofs.Sendings.{first_is, opens_first}
use Rattle.memberlist_keyring.proofs.keyring.Keyring.encrypt.Goals as goal

pub returns-clause-opens : goal.returns-clause-opens
returns-clause-opens c =
    let item = c.in-Some.ensures.item in
    let parts = first_is c.deref.result.now c.args.self.now c.in-Some.key.now (c.deref.ensures.value ∙ c.self.view_is) item.3.0 item.1 in
    opens_first c.args.self.now c.in-Some.key.now
    (drop 1 c.deref.result.now) c.args.label.now c.in_ok-bytes.bytes.items _ c.args.message.now parts
    c.in_ok-sent.ensures c.in_ok-bytes.ensures.encrypts
