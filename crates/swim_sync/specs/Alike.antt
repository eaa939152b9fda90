-- Which nodes of a cluster are known to have one table.
use Rattle.std.specs.Prelude.{◌≡◌, ◌≢◌, ◌⊎◌, ◌<◌, ℕ, Some, List, slice_get}
use Rattle.swim_table.specs.Node.{NodeValue}

-- the two nodes have one mark, above 0
abbrev pub IsPair : List ℕ → ℕ → ℕ → Type 0
IsPair marks a b = (mark : ℕ) × (0 < mark) × (slice_get marks a ≡ Some mark)
    × (slice_get marks b ≡ Some mark)

-- the nodes that are known to have one table have one table
abbrev pub AreAlike : List NodeValue → List ℕ → Type 0
AreAlike nodes marks = (a b : ℕ) (node other : NodeValue) → IsPair marks a b
    → slice_get nodes a ≡ Some node → slice_get nodes b ≡ Some other → node.table ≡ other.table

-- these two nodes have one table
abbrev pub HaveOneTable : List NodeValue → ℕ → ℕ → Type 0
HaveOneTable nodes j k = (node other : NodeValue) → slice_get nodes j ≡ Some node
    → slice_get nodes k ≡ Some other → node.table ≡ other.table

-- all marks are below this one, which is above 0
pub record AreBelow (marks : List ℕ) (next : ℕ) : Type 0 where
  pub some : 0 < next
  pub each : (i mark : ℕ) → slice_get marks i ≡ Some mark → mark < next

-- no pair has node k, and there are no other pairs than before
abbrev pub Forgets : List ℕ → List ℕ → ℕ → Type 0
Forgets old new k = (a b : ℕ) → IsPair new a b → (a ≢ k) × (b ≢ k) × IsPair old a b

-- the number is one of two
abbrev pub IsOneOf : ℕ → ℕ → ℕ → Type 0
IsOneOf a j k = (a ≡ j) ⊎ (a ≡ k)

-- j and k are paired with each other at most, and there are no other pairs than before
abbrev pub PairsOnly : List ℕ → List ℕ → ℕ → ℕ → Type 0
PairsOnly old new j k = (a b : ℕ) → IsPair new a b → (IsOneOf a j k × IsOneOf b j k)
    ⊎ ((¬ IsOneOf a j k) × (¬ IsOneOf b j k) × IsPair old a b)
