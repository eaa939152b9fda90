use Rattle.std.proofs.Common.{sym, ap, subst, length, arith}
use Rattle.std.proofs.lemmas.List.Edits.{length-remove}
use Rattle.tiered_vec.specs.Sound.{shape}
use Rattle.tiered_vec.specs.Tiers.{IsPlace, flatten, index_of}
use Rattle.tiered_vec.proofs.Flat.{index_in_range}
use Rattle.tiered_vec.proofs.tiered_vec.TieredVec.remove_at.Goals as goal

pub invariant_of-self : goal.invariant_of-self
invariant_of-self g c =
    let s = shape c.self.inside.blocks.items in
    let here = subst (λ v. IsPlace v.blocks c.args.place) (sym c.self.view_is) c.requires in
    let fewer = length-remove (flatten s) (index_of s c.args.place) (index_in_range s c.args.place here) in
    record {
      vectors = c.take_out-x.ensures.rooms;
      each = c.take_out-x.ensures.each;
      count = omega (arith, fewer, ap length c.take_out-x.ensures.items, c.self.invariant.count);
    }
