use Rattle.swim_c.proofs.Chains.{one_table, one_listing, one_dump}
use Rattle.swim_c.proofs.laws.same_claims_same_table.Goals as goal

pub returns-clause-table : goal.returns-clause-table
returns-clause-table c = one_table

pub returns-clause-listing : goal.returns-clause-listing
returns-clause-listing c = one_listing

pub returns-clause-dump : goal.returns-clause-dump
returns-clause-dump c = one_dump
