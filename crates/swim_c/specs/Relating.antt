-- How two tables relate, as a number.
use Rattle.std.specs.Prelude.{◌≡◌, ◌⊎◌, ℕ}
use Rattle.swim_table.specs.declared.table.Relation.TheVariants.{Equal, Behind, Ahead, Apart}
use Rattle.swim_table.specs.Covering.{IsRelation}
use Rattle.swim_table.specs.Table.{Entries}

-- 0 equal, 1 behind, 2 ahead, 3 apart
abbrev pub IsRelationNumber : Entries → Entries → ℕ → Type 0
IsRelationNumber left right number =
    ((number ≡ 0) × IsRelation left right Equal) ⊎ ((number ≡ 1) × IsRelation left right Behind)
    ⊎ ((number ≡ 2) × IsRelation left right Ahead) ⊎ ((number ≡ 3) × IsRelation left right Apart)
