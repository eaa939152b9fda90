use Rattle.std.proofs.Common.{◌∙◌}
use Rattle.std.proofs.lemmas.Result.{IfOk-weaker}
use Rattle.memberlist_cipher.specs.Encryption.{StreamEncryption}
use Rattle.memberlist_cipher.specs.Refusal.{StreamCause}
use Rattle.memberlist_keyring.proofs.Labels.{stream_is_bare}
use Rattle.memberlist_keyring.proofs.Openings.{opens_first, first_opens, opens_none, refused, asks}
use Rattle.memberlist_keyring.proofs.keyring.Keyring.open_stream.Goals as goal

pub returns-clause-opens : goal.returns-clause-opens
returns-clause-opens c =
    IfOk-weaker c.try_keys.result _ _
    (λ message h. first_opens StreamEncryption _ _ message.items
    (opens_first StreamEncryption stream_is_bare c.args.self.now c.deref.result.now c.args.bytes.now _ _ message.items
    (c.deref.ensures.value ∙ c.self.view_is) c.cut_label.ensures h))
    c.try_keys.ensures.opens

pub returns-clause-first : goal.returns-clause-first
returns-clause-first c =
    IfOk-weaker c.try_keys.result _ _
    (λ message h. opens_first StreamEncryption stream_is_bare c.args.self.now c.deref.result.now c.args.bytes.now _ _ message.items
    (c.deref.ensures.value ∙ c.self.view_is) c.cut_label.ensures h)
    c.try_keys.ensures.opens

pub returns-clause-lacks : goal.returns-clause-lacks
returns-clause-lacks c =
    opens_none StreamEncryption c.try_keys.result c.args.self.now c.deref.result.now c.args.bytes.now _ _
    (c.deref.ensures.value ∙ c.self.view_is) c.cut_label.ensures
    c.try_keys.ensures.lacks

pub returns-clause-reason : goal.returns-clause-reason
returns-clause-reason c =
    refused StreamCause c.try_keys.result c.args.self.now c.deref.result.now c.args.bytes.now _ _
    (c.deref.ensures.value ∙ c.self.view_is) c.cut_label.ensures
    c.try_keys.ensures.reason

pub returns-clause-memory : goal.returns-clause-memory
returns-clause-memory c =
    asks StreamCause c.try_keys.result c.args.self.now c.deref.result.now c.args.bytes.now _ _
    (c.deref.ensures.value ∙ c.self.view_is) c.cut_label.ensures
    c.try_keys.ensures.memory
