use Rattle.std.proofs.Common.{◌≡◌, ℕ, suc, ◌+◌, subst, arith}
use Rattle.memberlist_cipher.specs.Block.{rounds}
use Rattle.memberlist_cipher.specs.States.{HasKey}
use Rattle.memberlist_cipher.proofs.Keys.{ended_is}
use Rattle.memberlist_cipher.proofs.block.ended.Goals as goal

pub returns : goal.returns
returns c words block n after has =
    let next : n + 1 ≡ suc n = omega arith in
    ended_is words block c.args.key c.scrambled.result n (subst (λ (m : ℕ). HasKey words m c.args.key) next has)
    (c.scrambled.ensures (rounds words n block) after.good after.same)
