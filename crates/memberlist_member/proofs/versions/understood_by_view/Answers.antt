use Rattle.std.specs.Option.{option_copied}
use Rattle.memberlist_member.specs.Versions.{versions_shown}
use Rattle.memberlist_member.proofs.Compatible.{by_none, by_one}
use Rattle.memberlist_member.proofs.versions.understood_by_view.Goals as goal

pub loop-shown-preserved : goal.loop-shown-preserved
loop-shown-preserved c =
    by_one (λ shown. versions_shown shown.1) _ c.loop-shown.understood c.by-understood.result c.loop-shown.shown-iterator
    c.next.new.self (c.in-Some.shown.0.now, c.in-Some.shown.1.now) (option_copied c.versions_shown.result)
    c.loop-shown.invariant c.in-Some.ensures.steps c.versions_shown.ensures c.by-understood.ensures

pub returns : goal.returns
returns c =
    by_none (λ shown. versions_shown shown.1) _ c.loop-shown.understood c.loop-shown.shown-iterator c.loop-shown.invariant
    c.in-None.ensures.steps.0
