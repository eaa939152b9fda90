use Rattle.std.proofs.Common.{◌≡◌, ◌+◌, ◌∙◌, suc, sym, ap, subst, length, take, drop, All, arith}
use Rattle.std.proofs.lemmas.List.Edits.{length-remove}
use Rattle.std.proofs.lemmas.List.Elements.{All-append, All-take, All-drop, All-get_or, All-push}
use Rattle.tiered_vec.specs.Sound.{shape, HasRoom, IsSpare}
use Rattle.tiered_vec.proofs.Shapes.{shape-remove, block_read}
use Rattle.tiered_vec.proofs.blocks.spare_block.Goals as goal

pub returns-clause-rooms : goal.returns-clause-rooms
returns-clause-rooms g c =
    let bs = c.args.blocks.now.items in
    let k = c.args.block in
    let b = c.remove-empty.result in
    let old = c.requires.rooms in
    let fewer = length-remove bs k c.requires.block in
    let left = ap length c.remove-empty.ensures.items in
    let more : length c.push_reserved.new.self.items ≡ length c.args.spares.now.items + 1 =
    omega (arith, c.push_reserved.ensures.len, c.push_reserved.new.self.ok.0, c.args.spares.now.ok.0) in
    record {
      rooms =
          subst (All HasRoom) (sym c.remove-empty.ensures.items)
          (All-append HasRoom (take k bs) (drop (suc k) bs) (All-take HasRoom k bs old.rooms) (All-drop HasRoom (suc k) bs old.rooms));
      empties =
          subst (All IsSpare) (sym c.push_reserved.ensures.items)
          (All-push IsSpare c.args.spares.now.items b old.empties
          (record {
            room = subst HasRoom (sym c.remove-empty.ensures.value) (All-get_or HasRoom bs k b c.requires.block old.rooms);
            empty = block_read bs k b c.requires.block c.remove-empty.ensures.value ∙ c.requires.empty;
          }));
      places = omega (arith, fewer, left, more, c.remove-empty.ensures.capacity, old.places);
      spare_places = omega (arith, fewer, left, more, c.push_reserved.ensures.capacity, old.spare_places);
      few = omega (arith, fewer, left, more, old.few);
    }

pub returns-clause-shape : goal.returns-clause-shape
returns-clause-shape g c = ap shape c.remove-empty.ensures.items ∙ shape-remove c.args.blocks.now.items c.args.block
