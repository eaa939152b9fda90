use Rattle.swim_c.proofs.Noting.{left_out}
use Rattle.swim_c.proofs.forgetting.left_out.Goals as goal

pub returns-in-Some : goal.returns-in-Some
returns-in-Some c =
    rw c.in-Some.is (left_out c.in-Some.noted c.forget.new.self c.args.name.now c.len.ensures.legal.own c.forget.ensures.kept)
