use Rattle.std.proofs.Common.{◌≡◌, ℕ, suc, ◌+◌, bit_xor, subst, sym, arith}
use lib.Lanes.{zip2}
use Rattle.memberlist_cipher.specs.Block.{rounds}
use Rattle.memberlist_cipher.specs.States.{IsAfter, HasKey}
use Rattle.memberlist_cipher.proofs.Keys.{advanced_is}
use Rattle.memberlist_cipher.proofs.block.advanced.Goals as goal

pub returns : goal.returns
returns c words block plain n after has k =
    let next : n + 1 ≡ suc n = omega arith in
    subst (λ (m : ℕ). IsAfter words m block (zip2 bit_xor c.mixed.result c.args.key)) (sym next)
    (advanced_is words block plain c.args.state c.args.key c.mixed.result n after (subst (λ (m : ℕ). HasKey words m plain) next has) k
    (c.mixed.ensures (rounds words n block) after.good after.same))
