use Rattle.swimwatch.proofs.ClearClaims.{accepted, refused}
use Rattle.swimwatch.proofs.laws.a_claim_in_the_clear.Goals as goal

pub returns-clause-accepted : goal.returns-clause-accepted
returns-clause-accepted c = accepted

pub returns-clause-refused : goal.returns-clause-refused
returns-clause-refused c = refused
