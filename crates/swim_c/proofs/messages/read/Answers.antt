use Rattle.std.proofs.Common.{◌∙◌, inl, inr, ap, refl}
use Rattle.memberlist_message.specs.Messages.{message_value}
use Rattle.swim_wire.specs.Fault.{wire_number}
use Rattle.swim_c.specs.Messages.{ReadDone}
use Rattle.swim_c.proofs.messages.read.Goals as goal

pub returns-in-Ok : goal.returns-in-Ok
returns-in-Ok c = ReadDone.message (message_value c.in-Ok.message) c.in-Ok.ensures c.copy_in.ensures

pub returns-in-Err : goal.returns-in-Err
returns-in-Err c = elim c.in-Err.ensures [
  | inl is ↦ ReadDone.refused c.in-Err.fault is c.number.ensures refl
  | inr wants ↦ ReadDone.memory (c.number.ensures ∙ ap wire_number wants) refl
]
