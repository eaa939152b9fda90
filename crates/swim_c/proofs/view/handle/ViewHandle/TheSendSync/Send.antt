-- A handle may be used on another thread, as a box of its view may. Assumes `Logic`.
use denote.Param.Send.{IsSend, owning_send, recorded_send, sendable, struct_send}
use denote.Struct.Declared.{shape}
use Rattle.memberlist_view.proofs.view.View.TheSendSync.{the_send as view_send}
use Rattle.swim_c.proofs.Handles.Send.{holds_keyless}
use Rattle.swim_c.specs.contracts.view.held.HeldView as held
use Rattle.swim_c.specs.contracts.view.handle.ViewHandle.{the_row, the_type}

held_send : IsSend held.the_row
held_send = recorded_send (held.the_field).row _ _ (held.the_type).to_one (struct_send (shape held.the_type) (view_send, tt))

pub send : IsSend the_row
send = owning_send the_type (search sendable, (search sendable, tt))
    (λ h. holds_keyless held.the_row held_send h.at h.held h.view) (λ k h w. tt)
