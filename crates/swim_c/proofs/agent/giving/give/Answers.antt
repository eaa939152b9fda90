use Rattle.std.proofs.Common.{◌≡◌, ◌∙◌, List, ◌∷◌, ◌++◌, ap, refl, sym}
use Rattle.memberlist_member.specs.declared.output.Output.{Output}
use Rattle.swim_c.specs.Agents.{NextDone, to_give}
use Rattle.swim_c.proofs.agent.giving.give.Goals as goal

pub returns-in-Some-clause-gives : goal.returns-in-Some-clause-gives
returns-in-Some-clause-gives c =
    let brought = c.bring.new.self in
    let first : to_give c.args.held.now
    ≡ c.in-Some.output ∷ (c.pop_front.new.self.items ++ brought.behind.items ++ brought.member.out.list.items) =
    sym c.bring.ensures.all
    ∙ ap (λ (xs : List Output). xs ++ brought.behind.items ++ brought.member.out.list.items) c.in-Some.ensures.items
    in
    NextDone.given c.in-Some.output refl first c.write.ensures.written c.write.ensures.bytes c.bring.ensures.streams
