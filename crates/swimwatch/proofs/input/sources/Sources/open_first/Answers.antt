use Rattle.std.proofs.Common.{length, slice_set, inl, inr, refl, ap, ◌∙◌}
use Rattle.std.proofs.lemmas.List.{set-get_or}
use Rattle.std.proofs.lemmas.Option.{slice_get_past, slice_get_read}
use Rattle.swimwatch.proofs.Flowing.{on_ok}
use Rattle.swimwatch.proofs.Yielding.{is_ready, is_ready_past, none_is}
use Rattle.swimwatch.proofs.input.sources.Sources.open_first.Goals as goal

pub returns-in_default-get_mut : goal.returns-in_default-get_mut
returns-in_default-get_mut c =
    let old = c.args.self.now in
    let turn = c.in-Some.turn in
    (refl, refl, inl (is_ready_past old turn c.in-Some.ensures.first (slice_get_past old.all.items turn.place c.in_default-get_mut.ensures.item.3), refl))

pub returns-then-is_none : goal.returns-then-is_none
returns-then-is_none c =
    let old = c.args.self.now in
    let turn = c.in-Some.turn in
    let source = c.in-Some-get_mut.source.now in
    let at = slice_get_read old.all.items (length old.all.items) turn.place source refl c.in-Some-get_mut.ensures.item.3.0 c.in-Some-get_mut.ensures.value in
    on_ok c.open.result (λ begins. (
      refl,
      refl,
      inr (
        turn,
        source,
        c.open.new.self,
        c.in-Some.ensures.first,
        at,
        none_is source.reading c.if-is_none.ensures,
        refl,
        begins,
      ),
    )) c.open.ensures

pub returns : goal.returns
returns c =
    let old = c.args.self.now in
    let turn = c.in-Some.turn in
    let source = c.in-Some-get_mut.source.now in
    let at = slice_get_read old.all.items (length old.all.items) turn.place source refl c.in-Some-get_mut.ensures.item.3.0 c.in-Some-get_mut.ensures.value in (
      refl,
      refl,
      inl (
        is_ready old turn source c.in-Some.ensures.first at c.if-is_none.ensures,
        ap (slice_set old.all.items turn.place) c.in-Some-get_mut.ensures.value ∙ set-get_or old.all.items turn.place source,
      ),
    )
