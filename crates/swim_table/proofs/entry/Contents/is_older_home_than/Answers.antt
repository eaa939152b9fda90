use Rattle.swim_table.specs.Entry.{home_claim}
use Rattle.swim_table.proofs.entry.Contents.is_older_home_than.Goals as goal

pub returns-in-Alive-Some : goal.returns-in-Alive-Some
returns-in-Alive-Some c =
    let own = c.self.inside in
    let home = c.in-Alive-Some.home in
    rw (← c.self.view_is, c.in-Alive-Some.is-0, c.in-Alive-Some.is-1)
    (rw c.in-Alive-Some.is-0 at
    (c.outranks.ensures c.args.claim.now (home_claim own.name home) c.facts.ensures.facts (c.facts-in-Alive-Some.ensures.facts own.name)))
