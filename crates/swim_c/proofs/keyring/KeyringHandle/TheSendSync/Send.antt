-- A handle may be used on another thread, as a box of its keys may. Assumes `Logic`.
use denote.Param.Send.{IsSend, owning_send, recorded_send, sendable, struct_send}
use denote.Struct.Declared.{shape}
use Rattle.memberlist_keyring.proofs.keyring.Keyring.TheSendSync.{the_send as keyring_send}
use Rattle.memberlist_transport.proofs.in_the_clear.InTheClear.TheSendSync.{the_field_send as clear_send}
use Rattle.swim_c.proofs.Handles.Send.{holds_keyless}
use Rattle.swim_c.specs.contracts.cluster_keys.ClusterKeys as keys
use Rattle.swim_c.specs.contracts.keyring.KeyringHandle.{the_row, the_type}

keys_send : IsSend keys.the_row
keys_send =
    recorded_send (keys.the_field).row _ _ (keys.the_type).to_one (struct_send (shape keys.the_type) (keyring_send, (clear_send, tt)))

pub send : IsSend the_row
send = owning_send the_type (search sendable, (search sendable, tt))
    (λ h. holds_keyless keys.the_row keys_send h.at h.held h.keys) (λ k h w. tt)
