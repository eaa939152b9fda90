use Rattle.std.proofs.Common.{◌≡◌}
use Rattle.swimwatch.specs.Records.{claims_in}
use Rattle.swimwatch.proofs.heard.records.claims_in.Given as goal

abbrev pub invariant-loop-record : goal.invariant-loop-record
invariant-loop-record l = l.claims.items ≡ claims_in l.yielded
