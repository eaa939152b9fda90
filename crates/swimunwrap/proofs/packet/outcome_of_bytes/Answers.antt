use Rattle.std.proofs.Common.{◌≡◌, ◌∙◌, sym, subst, rules}
use Rattle.std.specs.Prelude.{◌≢◌}
use Rattle.memberlist_transport.specs.Packet.{Fails}
use Rattle.memberlist_transport.specs.declared.fault.PacketFault.TheVariants.{Wrapped, NoMessage, Unencrypted, Memory}
use Rattle.swimunwrap.proofs.packet.outcome_of_bytes.Goals as goal

pub returns-in-Err-Wrapped : goal.returns-in-Err-Wrapped
returns-in-Err-Wrapped c =
    let is : c.in-Err-Wrapped.field-0 ≡ Wrapped c.in-Err-Wrapped.fault = search rules in
    let other : c.in-Err-Wrapped.field-0 ≢ Memory = λ memory. let bad : Wrapped c.in-Err-Wrapped.fault
    ≡ Memory = sym is ∙ memory in absurd cc in
    subst (λ f. Fails c.args.clear c.args.keys.now c.args.bytes.now (Wrapped f)) (sym c.in-Err-Wrapped.fault-is)
    (subst (Fails c.args.clear c.args.keys.now c.args.bytes.now) is (c.in-Err-Wrapped.ensures.reason other))

pub returns-in-Err-NoMessage : goal.returns-in-Err-NoMessage
returns-in-Err-NoMessage c =
    let is : c.in-Err-NoMessage.field-0 ≡ NoMessage c.in-Err-NoMessage.first = search rules in
    let other : c.in-Err-NoMessage.field-0 ≢ Memory = λ memory. let bad : NoMessage c.in-Err-NoMessage.first
    ≡ Memory = sym is ∙ memory in absurd cc in
    subst (λ f. Fails c.args.clear c.args.keys.now c.args.bytes.now (NoMessage f)) (sym c.in-Err-NoMessage.first-is)
    (subst (Fails c.args.clear c.args.keys.now c.args.bytes.now) is (c.in-Err-NoMessage.ensures.reason other))

pub returns-in-Err-Unencrypted : goal.returns-in-Err-Unencrypted
returns-in-Err-Unencrypted c =
    let is : c.in-Err-Unencrypted.field-0 ≡ Unencrypted = search rules in
    let other : c.in-Err-Unencrypted.field-0 ≢ Memory = λ memory. let bad : Unencrypted ≡ Memory = sym is ∙ memory in absurd cc in
    subst (Fails c.args.clear c.args.keys.now c.args.bytes.now) is (c.in-Err-Unencrypted.ensures.reason other)
