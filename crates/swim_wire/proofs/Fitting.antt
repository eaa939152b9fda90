-- Values that fit their keys.
use Rattle.std.proofs.Common.{ℕ, zero, suc, ◌<◌, ◌≤◌, List, [], ◌∷◌, length, Option, Some, None, slice_index_or, slice_set, arith, rules}
use Rattle.swim_wire.specs.declared.layout.Field.{Field}
use Rattle.swim_wire.specs.declared.layout.Limit.{Limit}
use Rattle.swim_wire.specs.declared.layout.Limit.TheVariants as limits
use Rattle.swim_wire.specs.declared.map.Value.{Value}
use Rattle.swim_wire.specs.Slots.{Fits, FitsEach, CanRead, CanReadEach}

-- one more value that fits its key
pub FitsEach-set : (layout : List Field) (values : List (Option Value)) (place : ℕ) (d : Field) (value : Value) → place < length layout
    → FitsEach layout values → Fits (let field = slice_index_or layout place d in field.limit) value
    → FitsEach layout (slice_set values place (Some value))
FitsEach-set [] values place d value within fits fit = tt
FitsEach-set (field ∷ layout) [] place d value within fits fit = absurd fits
FitsEach-set (field ∷ layout) (old ∷ values) zero d value within fits fit = (fit, fits.1)
FitsEach-set (field ∷ layout) (old ∷ values) (suc place) d value within fits fit =
    (fits.0, FitsEach-set layout values place d value (omega arith) fits.1 fit)

-- if no value was read, each fits
abbrev pub nones : ℕ → List (Option Value)
nones zero = []
nones (suc n) = None ∷ nones n

pub FitsEach-nones : (layout : List Field) (n : ℕ) → length layout ≤ n → FitsEach layout (nones n)
FitsEach-nones [] n room = tt
FitsEach-nones (field ∷ layout) zero room = absurd (omega arith)
FitsEach-nones (field ∷ layout) (suc n) room = (tt, FitsEach-nones layout n (omega arith))

-- with memory each value can be read
pub CanReadEach-some : {A : Type 0} (alloc : A) (layout : List Field) → CanReadEach (Some alloc) layout
CanReadEach-some alloc [] = tt
CanReadEach-some alloc (field ∷ layout) = (CanRead-some alloc field.limit, CanReadEach-some alloc layout)
  where
    CanRead-some : {A : Type 0} (alloc : A) (limit : Limit) → CanRead (Some alloc) limit
    CanRead-some alloc (limits.Number max) = tt
    CanRead-some alloc (limits.Raw limit) = search rules
    CanRead-some alloc limits.Flag = tt

-- a value of the layout can be read
pub CanReadEach-at : {A : Type 0} (alloc : Option A) (layout : List Field) (place : ℕ) (d : Field)
    → place < length layout → CanReadEach alloc layout
    → CanRead alloc (let field = slice_index_or layout place d in field.limit)
CanReadEach-at alloc [] place d within can = absurd (omega arith)
CanReadEach-at alloc (field ∷ layout) zero d within can = can.0
CanReadEach-at alloc (field ∷ layout) (suc place) d within can = CanReadEach-at alloc layout place d (omega arith) can.1
