use Rattle.std.proofs.Common.{◌≡◌, ◌∙◌, ◌-◌, ◌∷◌, [], ℕ, List, length, ap, refl, subst, rules}
use Rattle.std.specs.Prelude.{◌≢◌}
use Rattle.memberlist_message.specs.Leaves.{AreLeaves}
use Rattle.memberlist_wrap.specs.declared.fault.WrapFault.TheVariants.{Memory}
use Rattle.swimwatch.specs.Datagrams.Unpacks.{refused, inside}
use Rattle.swimwatch.proofs.heard.messages.Messages.take_compressed.Goals as goal

pub returns-in_ok-take_leaves-in-Ok : goal.returns-in_ok-take_leaves-in-Ok
returns-in_ok-take_leaves-in-Ok c =
    let read = c.in_ok-take_leaves-in-Ok.ensures.read in
    let len : c.len.result ≡ length c.in-Ok.inner.items = search rules in
    inside c.in-Ok.inner.items read.0 read.1 c.in-Ok.ensures.unwraps
    (subst (λ (b : List ℕ). AreLeaves (b ∷ []) read.0 read.1) c.deref.ensures.value read.2) read.3
    (c.in_ok-take_leaves-in-Ok.ensures.room ∙ c.saturating_sub-self.ensures
    ∙ ap (λ (n : ℕ). c.args.self.now.room - n) len)

pub returns-in-Err : goal.returns-in-Err
returns-in-Err c =
    let other : c.in-Err.field-0 ≢ Memory = search rules in
    refused (c.in-Err.ensures.limits other) refl refl
