use Rattle.swim_table.proofs.Listings.{same_table_listed}
use Rattle.swim_table.proofs.laws.one_listing.Goals as goal

pub returns : goal.returns
returns c = same_table_listed
