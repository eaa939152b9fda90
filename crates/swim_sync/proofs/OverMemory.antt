-- The answer to an offer that is the canonical dump of a table.
use Rattle.std.proofs.Common.{ℕ, Bool, false, Some, List, [], ◌++◌, sym, subst, ◌∙◌, append-nil, arith}
use Rattle.swim_wire.specs.declared.fault.WireFault.{WireFault}
use Rattle.swim_wire.proofs.OneStream.{one_stream}
use Rattle.swim_table.specs.Dump.{dump_bytes}
use Rattle.swim_table.specs.Table.{Entries, Reduced, TableOf}
use Rattle.swim_table.proofs.Dumps.{dump_is_stream}
use Rattle.swim_table.proofs.Showing.{TableOf-sent}
use Rattle.swim_table.proofs.Tables.{TableOf-Reduced}
use Rattle.swim_table.proofs.WholeStreams.{refused_whole, dumped}
use Rattle.swim_sync.specs.Exchanging.{TakesStream, LacksStream}
use Rattle.swim_sync.specs.OverMemory.{IsOffer, TakesTable}

-- taking in the stream at the start of an offer takes in the claims of the offered table
pub takes_offer : (offer rest : List ℕ) (before after other : Entries) (join : Bool)
    → TakesStream (record { coming = Some offer; faults = 0 }) (record { coming = Some rest; faults = 0 }) before after join
    → IsOffer other offer → TakesTable before after other
takes_offer offer rest before after other join took is claims others h g =
    let one =
    one_stream took.taken.0 (dump_bytes other false) rest [] took.claims
    (Reduced other) join false took.taken.1 (dump_is_stream other false is.legal is.few)
    (sym took.taken.2 ∙ is.dump ∙ sym (append-nil (dump_bytes other false))) in
    TableOf-sent other after (Reduced other) others claims (TableOf-Reduced other others g) g
    (subst (λ l. TableOf after (claims ++ l)) one.1 (took.all claims h))

-- an offer is never refused as not being a stream
pub offer_lacks : (offer rest : List ℕ) (other : Entries) (fault : WireFault)
    → LacksStream (record { coming = Some offer; faults = 0 }) (record { coming = Some rest; faults = 0 }) fault → ¬ IsOffer other offer
offer_lacks offer rest other fault lacks is =
    refused_whole fault offer lacks.lacks
    (λ same. let rose = lacks.failed same
    in omega (arith, rose)) lacks.no_memory (Reduced other) false
    (dumped offer other false is.legal is.few is.dump)
