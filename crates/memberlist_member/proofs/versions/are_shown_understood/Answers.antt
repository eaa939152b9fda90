use Rattle.std.proofs.Common.{rules}
use Rattle.std.specs.Option.{option_copied}
use Rattle.memberlist_member.specs.Versions.{versions_shown}
use Rattle.memberlist_member.proofs.Compatible.{also_one, not_none, not_one}
use Rattle.memberlist_member.proofs.versions.are_shown_understood.Goals as goal

pub returns-then-not-has : goal.returns-then-not-has
returns-then-not-has c =
    not_one (λ shown. versions_shown shown.1) _ c.has.result c.args.understood c.loop-shown.shown-iterator c.next.new.self
    (c.in-Some.shown.0.now, c.in-Some.shown.1.now) (option_copied c.versions_shown.result) c.loop-shown.invariant
    c.in-Some.ensures.steps c.versions_shown.ensures c.has.ensures (search rules)

pub loop-shown-preserved : goal.loop-shown-preserved
loop-shown-preserved c =
    also_one (λ shown. versions_shown shown.1) _ c.has.result c.args.understood c.loop-shown.shown-iterator c.next.new.self
    (c.in-Some.shown.0.now, c.in-Some.shown.1.now) (option_copied c.versions_shown.result) c.loop-shown.invariant
    c.in-Some.ensures.steps c.versions_shown.ensures c.has.ensures (search rules)

pub returns : goal.returns
returns c =
    not_none (λ shown. versions_shown shown.1) _ c.args.understood c.loop-shown.shown-iterator c.loop-shown.invariant
    c.in-None.ensures.steps.0
