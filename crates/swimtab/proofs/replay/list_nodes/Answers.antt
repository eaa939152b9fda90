use Rattle.std.proofs.Common.{ℕ, ◌<◌, List, ◌++◌, ◌∙◌, sym, ap, ap₂, map, length, arith}
use Rattle.std.specs.Option.{option_map}
use Rattle.std.proofs.lemmas.List.{length-map}
use Rattle.std.proofs.lemmas.Option.{slice_get-map, get_or_from_slice_get}
use Rattle.swim_table.specs.Listing.{listing}
use Rattle.swim_table.specs.Node.{NodeValue}
use Rattle.swim_table.specs.Table.{Entries}
use Rattle.swimtab.specs.Replay.{node_line}
use Rattle.swimtab.proofs.Replaying.{shown_more}
use Rattle.swimtab.proofs.replay.list_nodes.Goals as goal

pub loop-k-preserved : goal.loop-k-preserved
loop-k-preserved c =
    let tables : List Entries = map (λ (n : NodeValue). n.table) c.args.cluster.now in
    let table = c.in-Some.node.now.table in
    let number = c.len-k-end.ensures in
    let within = c.loop-k-test.true in
    let below : c.loop-k.k < length tables = (let same = length-map c.args.cluster.now
    (λ (n : NodeValue). n.table) in omega (arith, number, within, same)) in
    let at = slice_get-map (λ (n : NodeValue). n.table) c.args.cluster.now c.loop-k.k
    ∙ ap (option_map (λ (n : NodeValue). n.table)) (sym c.in-Some.ensures) in
    let is = sym (get_or_from_slice_get tables c.loop-k.k table table at) in
    c.in_ok-extend_from_slice.ensures.items
    ∙ ap₂ (λ (xs ys : List ℕ). xs ++ ys)
    (c.in_ok-write_node_line.ensures ∙ ap
    (λ (xs : List ℕ). xs ++ node_line c.loop-k.k) c.loop-k.invariant)
    (c.deref.ensures.value ∙ c.in_ok-list.ensures ∙ ap listing c.table.ensures.table)
    ∙ sym (shown_more tables c.loop-k.k table below is)
