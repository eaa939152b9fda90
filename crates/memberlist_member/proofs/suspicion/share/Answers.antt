use Rattle.std.proofs.Common.{◌≡◌, arith}
use Rattle.memberlist_member.proofs.Shares.{all, four_one, four_three, four_two, none, three_one, three_two, two_one}
use Rattle.memberlist_member.proofs.suspicion.share.Goals as goal

pub returns-in_default-eq0-clause-is : goal.returns-in_default-eq0-clause-is
returns-in_default-eq0-clause-is c = rw c.in_default-eq0.is-1 (none c.args.k)

pub returns-in-2-eq1-clause-is : goal.returns-in-2-eq1-clause-is
returns-in-2-eq1-clause-is c = rw (c.in-2-eq1.is-0, c.in-2-eq1.is-1) two_one

pub returns-in-3-eq1-clause-is : goal.returns-in-3-eq1-clause-is
returns-in-3-eq1-clause-is c = rw (c.in-3-eq1.is-0, c.in-3-eq1.is-1) three_one

pub returns-in-4-eq1-clause-is : goal.returns-in-4-eq1-clause-is
returns-in-4-eq1-clause-is c = rw (c.in-4-eq1.is-0, c.in-4-eq1.is-1) four_one

pub returns-in-3-eq2-clause-is : goal.returns-in-3-eq2-clause-is
returns-in-3-eq2-clause-is c = rw (c.in-3-eq2.is-0, c.in-3-eq2.is-1) three_two

pub returns-in-4-eq2-clause-is : goal.returns-in-4-eq2-clause-is
returns-in-4-eq2-clause-is c = rw (c.in-4-eq2.is-0, c.in-4-eq2.is-1) four_two

pub returns-in-4-eq3-clause-is : goal.returns-in-4-eq3-clause-is
returns-in-4-eq3-clause-is c = rw (c.in-4-eq3.is-0, c.in-4-eq3.is-1) four_three

pub returns-in_default-clause-is : goal.returns-in_default-clause-is
returns-in_default-clause-is c =
    let same : c.args.confirmed ≡ c.args.k = omega arith in rw same (all c.args.k c.requires.some)

pub returns-in_default-2-clause-is : goal.returns-in_default-2-clause-is
returns-in_default-2-clause-is c =
    let same : c.args.confirmed ≡ c.args.k = omega arith in rw same (all c.args.k c.requires.some)

pub returns-in_default-3-clause-is : goal.returns-in_default-3-clause-is
returns-in_default-3-clause-is c =
    let same : c.args.confirmed ≡ c.args.k = omega arith in rw same (all c.args.k c.requires.some)

pub returns-in_default-4-clause-is : goal.returns-in_default-4-clause-is
returns-in_default-4-clause-is c =
    let same : c.args.confirmed ≡ c.args.k = omega arith in rw same (all c.args.k c.requires.some)
