use Rattle.std.proofs.Common.{◌≡◌, Some, IfSome, length, refl, sym, ap, subst, ◌∙◌}
use Rattle.std.proofs.lemmas.Option.{slice_get_read}
use Rattle.swimwatch.specs.Yielded.{IsLast, bytes_of}
use Rattle.swimwatch.proofs.input.sources.Sources.next_time.Goals as goal
use Rattle.swimwatch.proofs.input.sources.Sources.next_time.Goals.{in-Some-reading+in_ok-read_on+else-branch, in_default-reading}

pub returns-then-branch-clause-reads : goal.returns-then-branch-clause-reads
returns-then-branch-clause-reads c reading has =
    let items = c.args.self.now.all.items in
    let source = c.in-Some.source.now in
    let at = slice_get_read items (length items) c.args.place source refl c.in-Some.ensures.item.3.0 c.in-Some.ensures.value in (
      source,
      record { word = source.word; reading = Some c.read_on.new.self; is_done = source.is_done },
      at,
      refl,
      refl,
      (
        c.in-Some-reading.reading,
        c.read_on.new.self,
        c.in-Some-reading.is,
        refl,
        (rw c.if-branch.true at c.in_ok-read_on.ensures),
        c.time_of.ensures,
        refl,
      ),
    )

pub returns-clause-reads : goal.returns-clause-reads
returns-clause-reads c reading has =
    let items = c.args.self.now.all.items in
    let source = c.in-Some.source.now in
    let at = slice_get_read items (length items) c.args.place source refl c.in-Some.ensures.item.3.0 c.in-Some.ensures.value in
    let word : c.match-source.source.word ≡ source.word = elim c.match-source.branch [
      | in-Some-reading+in_ok-read_on+else-branch w ↦ ap (λ s. s.word) w.source-is
      | in_default-reading w ↦ ap (λ s. s.word) w.source-is
    ] in
    let last : IfSome source.reading (IsLast bytes_of) = elim c.match-source.branch [
      | in-Some-reading+in_ok-read_on+else-branch w ↦ subst (λ o. IfSome o (IsLast bytes_of)) (sym w.in-Some-reading.is)
          (rw w.if-branch.false at w.in_ok-read_on.ensures)
      | in_default-reading w ↦ subst (λ o. IfSome o (IsLast bytes_of)) (sym w.in_default-reading.is) tt
    ] in (
      source,
      c.close.new.self,
      at,
      refl,
      c.close.ensures.word ∙ word,
      (last, c.close.ensures.reading, c.close.ensures.is_done),
    )
