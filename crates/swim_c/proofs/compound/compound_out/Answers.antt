use Rattle.std.proofs.Common.{refl, subst, List, ℕ, rules}
use Rattle.swim_c.specs.Compound.{CompoundDone, IsPacked}
use Rattle.swim_c.proofs.Faults.{compound_refused}
use Rattle.swim_c.proofs.compound.compound_out.Goals as goal

pub returns-in-Ok : goal.returns-in-Ok
returns-in-Ok c =
    CompoundDone.packed c.deref.result.now
    (subst (λ (b : List ℕ). IsPacked c.args.lens.now c.args.bytes.now b) (search rules) c.in-Ok.ensures.packs) c.copy_out.ensures

pub returns-in-Err : goal.returns-in-Err
returns-in-Err c =
    compound_refused c.args.bytes.now c.args.lens.now c.args.out.now c.args.out.now _ _ c.in-Err.fault (search rules)
    (search rules) (search rules) refl c.in-Err.ensures.refused c.in-Err.ensures.memory
