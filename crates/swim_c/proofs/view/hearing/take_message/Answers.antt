use Rattle.std.proofs.Common.{◌≡◌, ◌∙◌, inl, inr, ap, refl}
use Rattle.memberlist_message.specs.Messages.{message_value}
use Rattle.swim_wire.specs.Fault.{wire_number}
use Rattle.swim_c.specs.Views.{IsUnheard, MessageTold}
use Rattle.swim_c.specs.declared.view.hearing.Told.{Told}
use Rattle.swim_c.proofs.view.hearing.take_message.Goals as goal

pub returns-in-Ok : goal.returns-in-Ok
returns-in-Ok c = MessageTold.message (message_value c.in-Ok.message) c.in-Ok.ensures c.tell.ensures

pub returns-in-Err : goal.returns-in-Err
returns-in-Err c =
    let status : c.refused.result.status ≡ c.number.result = ap (λ (t : Told). t.status) c.refused.ensures in
    let unheard : IsUnheard c.refused.result.event c.args.view.now c.args.view.now c.args.member.now c.args.member.now =
    record { view = refl; event_is = ap (λ (t : Told). t.event) c.refused.ensures; data_are = refl } in
    elim c.in-Err.ensures [
      | inl is ↦ MessageTold.refused c.in-Err.fault is (status ∙ c.number.ensures) unheard
      | inr wants ↦ MessageTold.memory (status ∙ c.number.ensures ∙ ap wire_number wants) unheard
    ]
