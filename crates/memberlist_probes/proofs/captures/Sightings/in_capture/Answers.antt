use Rattle.std.proofs.Common.{◌≡◌, All, take, take-suc, take_all, slice_index_or, sym, subst, ◌∙◌, ap, add-one}
use Rattle.std.proofs.lemmas.List.Elements.{All-push}
use Rattle.memberlist_probes.proofs.captures.Sightings.in_capture.Goals as goal

pub loop-seen-preserved : goal.loop-seen-preserved
loop-seen-preserved c =
    let items = c.deref-seen-items.result.now in
    subst (All (λ seen. seen.capture ≡ c.args.capture → ⊥))
    (sym (ap (λ n. take n items) (add-one c.loop-seen.seen-index)
    ∙ take-suc items c.loop-seen.seen-index (record { capture = 0; time = 0 }) c.loop-seen-test.true))
    (All-push (λ seen. seen.capture ≡ c.args.capture
    → ⊥) (take c.loop-seen.seen-index items)
    (slice_index_or items c.loop-seen.seen-index
    (record { capture = 0; time = 0 })) c.loop-seen.invariant c.if-seen-capture.false)

pub returns : goal.returns
returns c =
    let items = c.deref-seen-items.result.now in
    subst (All (λ seen. seen.capture ≡ c.args.capture → ⊥))
    (take_all c.loop-seen.seen-index items c.loop-seen-test.false ∙ (c.deref-seen-items.ensures.value ∙ c.self.view_is))
    c.loop-seen.invariant
