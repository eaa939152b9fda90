use Rattle.std.proofs.Common.{ap}
use Rattle.swim_table.specs.Dump.{dump_bytes}
use Rattle.swim_table.specs.Listing.{listing}
use Rattle.swim_table.proofs.Dumps.{dump_claims}
use Rattle.swim_table.proofs.Tables.{Join-comm, Join-assoc, Join-itself, TableOf-unique}
use Rattle.swim_table.proofs.Showing.{top_stands}
use Rattle.swim_sync.proofs.Shown.{top_made, home_made}
use Rattle.swim_sync.proofs.laws.two_members.Goals as goal

pub returns-clause-commutative : goal.returns-clause-commutative
returns-clause-commutative c = Join-comm

pub returns-clause-associative : goal.returns-clause-associative
returns-clause-associative c = Join-assoc

pub returns-clause-idempotent : goal.returns-clause-idempotent
returns-clause-idempotent c = Join-itself

pub returns-clause-tops : goal.returns-clause-tops
returns-clause-tops c = top_made

pub returns-clause-homes : goal.returns-clause-homes
returns-clause-homes c = home_made

pub returns-clause-stands : goal.returns-clause-stands
returns-clause-stands c = top_stands

pub returns-clause-same : goal.returns-clause-same
returns-clause-same c = TableOf-unique

pub returns-clause-one_listing : goal.returns-clause-one_listing
returns-clause-one_listing c = λ table other claims others h g same. ap listing (TableOf-unique table other claims others h g same)

pub returns-clause-one_dump : goal.returns-clause-one_dump
returns-clause-one_dump c = λ table other claims others join h g same. ap
    (λ t. dump_bytes t join) (TableOf-unique table other claims others h g same)

pub returns-clause-read_back : goal.returns-clause-read_back
returns-clause-read_back c = dump_claims
