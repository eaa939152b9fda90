-- The entries of a legal table, put into another one, are the join of both.
use Rattle.std.proofs.Common.{◌≡◌, ◌∙◌, ◌++◌}
use Rattle.std.proofs.lemmas.List.Elements.{All-append}
use Rattle.swim_claim.specs.Claim.{IsLegalClaim}
use Rattle.swim_table.specs.Join.{Join, put_each}
use Rattle.swim_table.specs.Table.{Entries, IsLegalTable, Reduced}
use Rattle.swim_table.proofs.Merging.{merge_is_Join, put_each_is_merge}
use Rattle.swim_table.proofs.Tables.{TableOf-Join}
use Rattle.swim_table.proofs.Taking.{legal_table}

pub put_each-Join : (own other : Entries) → IsLegalTable own → IsLegalTable other → put_each own other ≡ Join own other
put_each-Join own other h g = put_each_is_merge own other h.own.ascending g.own.ascending ∙ merge_is_Join own other h.own g.own

pub legal-Join : (own other : Entries) → IsLegalTable own → IsLegalTable other → IsLegalTable (Join own other)
legal-Join own other h g =
    legal_table (Join own other) (Reduced own ++ Reduced other) (TableOf-Join own other (Reduced own) (Reduced other) h.own g.own)
    (All-append IsLegalClaim (Reduced own) (Reduced other) h.claims g.claims)
