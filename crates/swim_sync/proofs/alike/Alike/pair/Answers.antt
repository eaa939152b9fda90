use Rattle.std.proofs.Common.{◌∙◌, ℕ, List, set, sym, ap, subst}
use Rattle.swim_sync.specs.Alike.{PairsOnly}
use Rattle.swim_sync.proofs.Pairs.{reached, reached_below, paired, unpaired}
use Rattle.swim_sync.proofs.alike.Alike.pair.Goals as goal

pub returns-in-Some : goal.returns-in-Some
returns-in-Some c =
    let old = c.self.inside.marks.items in
    let marks = c.reach.new.marks.items in
    let next = c.self.inside.next in
    subst (λ (m : List ℕ). PairsOnly m c.put-in-Some.new.marks.items c.args.j c.args.k) c.self.view_is
    (subst (λ (m : List ℕ). PairsOnly old m c.args.j c.args.k)
    (sym (c.put-in-Some.ensures ∙ ap (λ (m : List ℕ). set m c.args.k next) c.put.ensures))
    (paired old marks next c.args.j c.args.k (reached old marks c.args.n c.reach.ensures)
    (reached_below old marks c.args.n next c.reach.ensures c.self.invariant)))

pub returns-in-None : goal.returns-in-None
returns-in-None c =
    let old = c.self.inside.marks.items in
    let marks = c.reach.new.marks.items in
    subst (λ (m : List ℕ). PairsOnly m c.put-in-None-2.new.marks.items c.args.j c.args.k) c.self.view_is
    (subst (λ (m : List ℕ). PairsOnly old m c.args.j c.args.k)
    (sym (c.put-in-None-2.ensures ∙ ap (λ (m : List ℕ). set m c.args.k 0) c.put-in-None.ensures))
    (unpaired old marks c.args.j c.args.k (reached old marks c.args.n c.reach.ensures)))
