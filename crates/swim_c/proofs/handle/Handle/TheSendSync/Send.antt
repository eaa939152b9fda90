-- A handle may be used on another thread, as a box of its node may. Assumes `Logic`.
use base.Shift.{Keyless}
use denote.Param.Send.{IsSend, owning_send, recorded_send, sendable, struct_send}
use denote.RawPtr.{Ptr}
use denote.Struct.Declared.{shape}
use Rattle.std.specs.Prelude.{Bool, Option, Some, None}
use Rattle.std.proofs.option.Option.TheSendSync as option
use Rattle.swim_table.specs.Node.{NodeValue}
use Rattle.swim_table.specs.Table.{Entries}
use Rattle.swim_table.specs.contracts.table.Table as table
use Rattle.swim_c.specs.contracts.watching.Watched as watched
use Rattle.swim_table.proofs.node.Node.TheSendSync.{the_send as node_send}
use Rattle.swim_table.proofs.table.Table.TheSendSync.{the_send as table_send}
use Rattle.swim_c.specs.Handle.{handle_owns}
use Rattle.swim_c.proofs.Handles.Send.{holds_keyless}
use Rattle.swim_c.specs.contracts.handle.Handle.{the_row, the_type}

watched_send : IsSend watched.the_row
watched_send =
    recorded_send (watched.the_field).row _ _ (watched.the_type).to_one
    (struct_send (shape watched.the_type) (node_send, (option.the_field_send table.the_row table_send, tt)))

owned : (at : Ptr) (held : Bool) (n : Option NodeValue) (m : Option Entries) → Keyless (handle_owns at held n m)
owned at held (Some x) m = holds_keyless watched.the_row watched_send at held (Some (record { node = x; changes = m }))
owned at held None None = holds_keyless watched.the_row watched_send at held None
owned at held None (Some names) = tt

pub send : IsSend the_row
send = owning_send the_type (search sendable, (search sendable, tt)) (λ h. owned h.at h.held h.node h.changes) (λ k h w. tt)
