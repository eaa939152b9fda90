use Rattle.std.proofs.Common.{ℕ, List, subst, rules}
use Rattle.swim_c.specs.Buffers.{Copied}
use Rattle.swim_c.specs.Sealing.{Sealed}
use Rattle.swim_c.proofs.Unwrappings.{of_some}
use Rattle.swim_c.proofs.sealing.reply_out.Goals as goal

pub returns-in-Ok-Some : goal.returns-in-Ok-Some
returns-in-Ok-Some c =
    let made = c.in-Ok-Some.ensures in let sealed = c.in-Ok-Some.sealed in
    Sealed.under_key sealed.items
    (of_some c.in-Ok-Some.field-0 sealed _ (search rules) made.sends)
    (of_some c.in-Ok-Some.field-0 sealed _ (search rules) made.opens)
    (of_some c.in-Ok-Some.field-0 sealed _ (search rules) made.within)
    (subst (λ (b : List ℕ). Copied b c.args.out.now c.copy_out.new.out c.copy_out.result.status
    c.copy_out.result.len) c.deref.ensures.value c.copy_out.ensures)
