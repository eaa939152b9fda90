use Rattle.std.proofs.Common.{Contains, take, take-suc, take_all, slice_index_or, sym, subst, refl, ◌∙◌, ap, add-one}
use Rattle.std.proofs.lemmas.List.Elements.{All-push, All-contains_itself}
use Rattle.memberlist_probes.specs.Captured.{IsAt, WasNotSeen}
use Rattle.memberlist_probes.proofs.captures.Sightings.at.Goals as goal

pub loop-seen-preserved : goal.loop-seen-preserved
loop-seen-preserved l =
    let items = l.deref-seen-items.result.now in
    subst (WasNotSeen l.args.captures.now l.args.host)
    (sym (ap (λ n. take n items) (add-one l.loop-seen.seen-index)
    ∙ take-suc items l.loop-seen.seen-index (record { capture = 0; time = 0 }) l.loop-seen-test.true))
    (All-push (λ seen. IsAt l.args.captures.now seen.capture l.args.host
    → ⊥) (take l.loop-seen.seen-index items)
    (slice_index_or items l.loop-seen.seen-index
    (record { capture = 0; time = 0 })) l.loop-seen.invariant l.if-is_at.ensures)

pub returns : goal.returns
returns l =
    let items = l.deref-seen-items.result.now in
    subst (WasNotSeen l.args.captures.now l.args.host)
    (take_all l.loop-seen.seen-index items l.loop-seen-test.false ∙ (l.deref-seen-items.ensures.value ∙ l.self.view_is))
    l.loop-seen.invariant

pub returns-then-is_at : goal.returns-then-is_at
returns-then-is_at l =
    let items = l.deref-seen-items.result.now in
    let seen = slice_index_or items l.loop-seen.seen-index (record { capture = 0; time = 0 }) in (
      seen,
      subst (λ all. Contains all seen) (l.deref-seen-items.ensures.value ∙ l.self.view_is)
          (All-contains_itself items l.loop-seen.seen-index
          (record { capture = 0; time = 0 }) l.loop-seen-test.true),
      l.if-is_at.ensures,
      refl,
    )
