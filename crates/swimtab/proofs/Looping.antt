-- Why a file is refused for a loop, and whether two tables are equal.
use Rattle.std.proofs.Common.{◌≡◌, ◌↔◌, ℕ, ◌≤◌, ◌⊎◌, inl, inr, List, length, refl}
use Rattle.std.specs.Prelude.{IsTrue}
use Rattle.swim_claim.specs.declared.claim.Claim.{Claim}
use denote.Enum.Bare.{sameb}
use Rattle.swim_table.specs.contracts.table.Relation.{the_type}
use Rattle.swim_table.specs.declared.table.Relation.{Relation}
use Rattle.swim_table.specs.declared.table.Relation.TheVariants.{Equal, Behind, Ahead, Apart}
use Rattle.swim_table.specs.Covering.{IsRelation}
use Rattle.swim_table.specs.Join.{Below}
use Rattle.swim_table.specs.Table.{Entries, TableOf}
use Rattle.swim_table.proofs.Showing.{below_join, below_both}
use Rattle.swim_table.proofs.Tables.{TableOf-Reduced, Join-itself}
use Rattle.swim_program.specs.declared.report.What.{What}
use Rattle.swim_program.specs.declared.report.What.TheVariants.{Memory}
use Rattle.swimtab.specs.Files.{IsNoDump}
use Rattle.swimtab.specs.Looping.{IsLoopRefused}
use Rattle.swimtab.specs.Looping.IsLoopRefused.{no_stream, memory}

-- ---- why a file is refused

-- a file whose dump is refused
pub refused_reading : (file : List ℕ) (what : What) → length file ≤ 268435456
    → (what ≡ Memory) ⊎ IsNoDump file what → IsLoopRefused file what
refused_reading file what short (inl is) = memory short is
refused_reading file what short (inr wrong) = no_stream short wrong

-- ---- whether two tables are equal

-- equal tables are each below the other
alike : (one other : Entries) (claims : List Claim) → TableOf one claims → one ≡ other → Below one other × Below other one
alike one other claims h e =
    let itself : Below one one = (below_join one one).1 (Join-itself one (TableOf-Reduced one claims h)) in
    rw (← e) (itself, itself)

-- they are equal if the relation says so
pub equal_told : (one other : Entries) (claims : List Claim) (r : Relation) → TableOf one claims → IsRelation one other r
    → IsTrue (sameb the_type r Equal) ↔ (one ≡ other)
equal_told one other claims Equal h below = (λ t. below_both one other below.0 below.1, λ e. refl)
equal_told one other claims Behind h below = (λ t. absurd cc, λ e. absurd (below.1 (alike one other claims h e).1))
equal_told one other claims Ahead h below = (λ t. absurd cc, λ e. absurd (below.0 (alike one other claims h e).0))
equal_told one other claims Apart h below = (λ t. absurd cc, λ e. absurd (below.0 (alike one other claims h e).0))
