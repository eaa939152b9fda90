use Rattle.swim_table.proofs.Changed.{told_by_covering}
use Rattle.swim_table.proofs.news.has_news.Goals as goal

pub returns-else-len : goal.returns-else-len
returns-else-len c =
    told_by_covering c.args.table.now c.args.other.now c.tiers-else-len.ensures.legal.own c.tiers.ensures.legal.own c.is_covered.result
    (rw (c.tiers.ensures.entries, c.tiers-else-len.ensures.entries) at c.is_covered.ensures)
