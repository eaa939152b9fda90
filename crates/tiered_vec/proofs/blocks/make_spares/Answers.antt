use Rattle.std.proofs.Common.{sym, ap, subst, length, All, arith}
use Rattle.tiered_vec.specs.Sound.{HasRoom}
use Rattle.tiered_vec.proofs.blocks.make_spares.Goals as goal

pub returns-in_err-block-clause-rooms : goal.returns-in_err-block-clause-rooms
returns-in_err-block-clause-rooms g c =
    let same = ap length c.reserve.ensures.items in
    let made = c.loop-alloc.invariant in
    record {
      rooms = subst (All HasRoom) (sym c.reserve.ensures.items) c.requires.rooms;
      empties = made.empties;
      places = omega (arith, same, c.reserve.new.self.ok.0, c.in_ok-reserve.ensures.ok, made.few);
      spare_places = omega (arith, same, made.room, made.few);
      few = omega (arith, same, c.args.blocks.now.ok.0, c.len-2.ensures, c.if-n-len-2.false, c.requires.few, made.few);
    }

pub returns-clause-rooms : goal.returns-clause-rooms
returns-clause-rooms g c =
    let same = ap length c.reserve.ensures.items in
    let made = c.loop-alloc.invariant in
    record {
      rooms = subst (All HasRoom) (sym c.reserve.ensures.items) c.requires.rooms;
      empties = made.empties;
      places = omega (arith, same, c.reserve.new.self.ok.0, c.in_ok-reserve.ensures.ok, made.few);
      spare_places = omega (arith, same, made.room, made.few);
      few = omega (arith, same, c.args.blocks.now.ok.0, c.len-2.ensures, c.if-n-len-2.false, c.requires.few, made.few);
    }
