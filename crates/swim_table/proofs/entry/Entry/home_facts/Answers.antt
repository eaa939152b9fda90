use Rattle.std.proofs.Common.{Some, refl, sym}
use Rattle.swim_table.specs.Entry.{home_claim}
use Rattle.swim_table.proofs.Combined.{top_of-name}
use Rattle.swim_table.proofs.entry.Entry.home_facts.Goals as goal

pub returns-in-Some-clause-facts : goal.returns-in-Some-clause-facts
returns-in-Some-clause-facts c =
    let inside = c.behind-self.inside in
    let named = top_of-name inside.name inside.kind inside.inc (Some c.in-Some.home) in
    rw (← c.self.view_is, ← c.deref.ensures, ← c.behind-self.view_is, c.in-Some.is)
    (home_claim inside.name c.in-Some.home, refl, sym named, c.facts.ensures.facts inside.name)

-- a home is an Alive
pub returns-in-Some-clause-alive : goal.returns-in-Some-clause-alive
returns-in-Some-clause-alive c = c.facts.ensures.legal.0 (sym (c.facts.ensures.facts c.behind-self.inside.name).kind)
