use Rattle.std.proofs.Common.{List, take, map}
use Rattle.swim_claim.specs.declared.claim.Claim.{Claim}
use Rattle.swim_table.specs.Table.{TableOf}
use Rattle.swimtab.specs.Files.{FilesClaims}
use Rattle.swimtab.proofs.dumps.joined.Given as goal

abbrev pub invariant-loop-place : goal.invariant-loop-place
invariant-loop-place l = (claims : List Claim) × TableOf l.table claims
    × FilesClaims (take l.place (map (λ file. file.items) l.files)) claims
