use Rattle.std.proofs.Common.{◌↔◌, IsTrue}
use Rattle.swim_claim.specs.Claim.{HasFacts}
use Rattle.swim_table.specs.Entry.{IsNewerHome}
use Rattle.swim_table.specs.Join.{standing_of}
use Rattle.swim_table.proofs.Combined.{covers_by}
use Rattle.swim_table.proofs.Tables.{standing_of_top}
use Rattle.swim_table.proofs.entry.Entry.covers_claim.Goals as goal

pub returns-then-not-raised : goal.returns-then-not-raised
returns-then-not-raised c =
    let mine = c.args.self.now in
    let others = standing_of c.args.claim.now in
    let theirs : HasFacts others.top c.facts.result = rw (standing_of_top c.args.claim.now) c.facts.ensures.facts in
    let own : HasFacts mine.top c.facts-2.result = rw (c.deref-2.ensures, c.self.view_is) at c.facts-2.ensures.facts in
    let newer : IsTrue c.is_older_home_than-newer.result ↔ IsNewerHome others.home mine.home =
    rw (c.deref-3.ensures, c.self.view_is) at c.is_older_home_than-newer.ensures in
    rw c.if-not-raised.true at
    (covers_by mine others c.outranks-raised.result c.is_older_home_than-newer.result
    (c.outranks-raised.ensures others.top mine.top theirs own) newer)

pub returns-else-not-raised : goal.returns-else-not-raised
returns-else-not-raised c =
    let mine = c.args.self.now in
    let others = standing_of c.args.claim.now in
    let theirs : HasFacts others.top c.facts.result = rw (standing_of_top c.args.claim.now) c.facts.ensures.facts in
    let own : HasFacts mine.top c.facts-2.result = rw (c.deref-2.ensures, c.self.view_is) at c.facts-2.ensures.facts in
    let newer : IsTrue c.is_older_home_than-newer.result ↔ IsNewerHome others.home mine.home =
    rw (c.deref-3.ensures, c.self.view_is) at c.is_older_home_than-newer.ensures in
    rw c.if-not-raised.false
    (rw c.if-not-raised.false at
    (covers_by mine others c.outranks-raised.result c.is_older_home_than-newer.result
    (c.outranks-raised.ensures others.top mine.top theirs own) newer))
