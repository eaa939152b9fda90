use Rattle.std.proofs.Common.{ap, inr, rules, subst, sym, ◌∙◌}
use Rattle.memberlist_member.specs.Showing.{Reaches}
use Rattle.memberlist_member.specs.Showing.Reaches.{here}
use Rattle.memberlist_member.proofs.member.Member.update.Goals as goal

pub returns-then-not-outdo-clause-updates : goal.returns-then-not-outdo-clause-updates
returns-then-not-outdo-clause-updates g c =
    let (((itself, details, leaving, seeds), times), probe) = c.put.ensures.stays in
    inr (details ∙ ap (λ own. own.details) c.if-not-outdo.ensures.exhausted, search rules)

pub returns-in_err-meta-clause-goes : goal.returns-in_err-meta-clause-goes
returns-in_err-meta-clause-goes g c told = here

pub returns-in_default-clause-goes : goal.returns-in_default-clause-goes
returns-in_default-clause-goes g c told = here

pub returns-in_err-put-clause-goes : goal.returns-in_err-put-clause-goes
returns-in_err-put-clause-goes g c told =
    let new = c.put.new.self in
    subst (λ o. Reaches new.settings new.own.name new.time told c.args.self.now.view o new.view new.own) (sym c.put.ensures.own)
    (c.put.ensures.goes told c.args.self.now.view _ here)

pub returns-then-not-outdo-clause-goes : goal.returns-then-not-outdo-clause-goes
returns-then-not-outdo-clause-goes g c told =
    let new = c.put.new.self in
    subst (λ o. Reaches new.settings new.own.name new.time told c.args.self.now.view o new.view new.own) (sym c.put.ensures.own)
    (c.put.ensures.goes told c.args.self.now.view _ here)

pub returns-in_err-announce-clause-goes : goal.returns-in_err-announce-clause-goes
returns-in_err-announce-clause-goes g c told =
    let new = c.announce.new.self in
    subst (λ o. Reaches new.settings new.own.name new.time told c.args.self.now.view o new.view new.own) (sym c.announce.ensures.own)
    (c.announce.ensures.goes told c.args.self.now.view _ here)

pub returns-clause-goes : goal.returns-clause-goes
returns-clause-goes g c told =
    let new = c.announce.new.self in
    subst (λ o. Reaches new.settings new.own.name new.time told c.args.self.now.view o new.view new.own) (sym c.announce.ensures.own)
    (c.announce.ensures.goes told c.args.self.now.view _ here)
