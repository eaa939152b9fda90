use Rattle.swim_pack.specs.Ends.{Advances}
use Rattle.swim_table.proofs.ReadingNews.{ReadNews}
use Rattle.swim_table.proofs.news_reader.read_news.Given as goal
use Rattle.tiered_vec.specs.Tiers.{index_of, IsPlaceOf}

abbrev pub invariant-loop-left : goal.invariant-loop-left
invariant-loop-left g l = record {
  some : ReadNews (g.I.Inlet.seen l.fn.inlet) (g.I.Inlet.seen l.inlet) l.header l.left l.fn.table l.news;
  next : IsPlaceOf l.entries.blocks (index_of l.entries.blocks l.next) l.next;
  end : Advances (g.I.Inlet.seen l.fn.inlet) (g.I.Inlet.seen l.inlet);
}

abbrev pub decreases-loop-left : goal.decreases-loop-left
decreases-loop-left g l = l.left
