use Rattle.std.proofs.Common.{◌∙◌, sym, ap, refl, length, slice_get, inl, inr}
use Rattle.std.proofs.lemmas.Option.{slice_get_read, slice_get_cases}
use Rattle.tiered_vec.specs.Tiers.{IsPlace, items, index_of}
use Rattle.tiered_vec.proofs.Flat.{index_in_range}
use Rattle.tiered_vec.proofs.tiered_vec.TieredVec.get_from.Goals as goal

pub returns-then-has_element : goal.returns-then-has_element
returns-then-has_element g c =
    let v = c.args.self.now in
    let p = c.settled-place.result in
    let here : IsPlace v.blocks p = c.if-has_element.ensures in
    let read = slice_get_read (items v) (length (items v)) (index_of v.blocks p) c.get_at.result.now refl
    (index_in_range v.blocks p here) c.get_at.ensures in
    sym read ∙ ap (slice_get (items v)) c.settled-place.ensures.index

pub returns-else-has_element : goal.returns-else-has_element
returns-else-has_element g c =
    let v = c.args.self.now in
    elim (slice_get_cases (items v) (index_of v.blocks c.args.place)).1 [
      | inl found ↦ absurd (c.if-has_element.ensures (c.settled-place.ensures.element found.1))
      | inr past ↦ sym past.1
    ]
