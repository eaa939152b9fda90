use Rattle.std.proofs.Common.{◌<◌, length, ap, subst, ◌∙◌, arith}
use Rattle.memberlist_compress.specs.Writing.{Writing, written, IsPadded}
use Rattle.memberlist_compress.proofs.Padding.{pads_nothing, pads_byte}
use Rattle.memberlist_compress.proofs.bit_writer.BitWriter.finish.Goals as goal
use Rattle.memberlist_compress.proofs.bit_writer.BitWriter.finish.Goals.{in-Some+in_ok-push, in_default}

pub returns : goal.returns
returns c =
    let bytes = c.self.inside.bytes.items in
    let held = c.self.inside.held in
    let after = c.match-last_byte.bytes.items in
    let few : length held < 8 = omega (arith, c.requires, ap (λ (w : Writing). length w.held) c.self.view_is) in
    let P : Writing → Type 0 = λ w. IsPadded (written w) after in
    subst P c.self.view_is (elim c.match-last_byte.branch [
      | in-Some+in_ok-push w ↦ pads_byte bytes held after w.in-Some.byte few w.in-Some.ensures
          (ap (λ v. v.items) w.bytes-is ∙ w.in_ok-push.ensures.items)
      | in_default w ↦ pads_nothing bytes held after w.in_default.ensures (ap (λ v. v.items) w.bytes-is)
    ])
