use Rattle.std.proofs.Common.{subst, sym}
use Rattle.memberlist_cipher.specs.States.{IsState, IsAfter}
use Rattle.memberlist_cipher.proofs.Keys.{begun_is}
use Rattle.memberlist_cipher.proofs.block.begun.Goals as goal

pub returns : goal.returns
returns c =
    let state : IsState c.args.block = record { size = c.fits-block.0; fits = c.fits-block.1 } in
    subst (IsAfter c.args.words.now 0 c.args.block) (sym c.to_tower.ensures)
    (begun_is c.args.words.now c.args.block c.type_inv.words c.requires state)
