-- Bytes have one label at most.
use Rattle.std.proofs.Common.{◌≡◌, sym, subst, ap, ◌∙◌}
use Rattle.std.specs.Str.{bytes_eq}
use Rattle.std.proofs.lemmas.Slice.Eq.{bytes_eq-Decides}
use Rattle.memberlist_cipher.specs.Label.{IsLabelled}
use Rattle.memberlist_cipher.proofs.Labels.{one_label}
use Rattle.memberlist_member.proofs.cover.Cover.has_label.Goals as goal

pub returns-in-Ok : goal.returns-in-Ok
returns-in-Ok c =
    let bytes = c.args.bytes.now in
    let label = c.in-Ok.label.now in
    let own = c.args.self.now.label.items in
    let rest = c.in-Ok.field-0-1.now in
    let tested : c.eq.result ≡ bytes_eq label own = c.eq.ensures ∙ ap (bytes_eq label) c.as_slice.ensures.value in (
      λ yes. (rest, subst (λ l. IsLabelled bytes l rest) ((bytes_eq-Decides label own).0 (sym tested ∙ yes)) c.in-Ok.ensures.label),
      λ has. tested ∙ (bytes_eq-Decides label own).1 (one_label bytes label rest own has.0 c.in-Ok.ensures.label has.1).0,
    )
