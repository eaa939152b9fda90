-- Which view a capture has.
use Rattle.std.specs.Prelude.{◌≡◌, ℕ, Option, Some}
use Rattle.std.specs.BTreeMap.{is_at}
use Rattle.std.specs.List.{slice_get}
use Rattle.std.specs.Map.{lookup}
use Rattle.std.specs.Option.{option_map}
use Rattle.std.specs.Ordering.{nat_cmp}
use Rattle.swimwatch.specs.declared.listening.seating.Followed.{Followed}
use Rattle.swimwatch.specs.declared.listening.seating.Seating.{Seating}

-- the view of the capture at this index, if a record of it came
abbrev pub view_at : Seating → ℕ → Option ℕ
view_at s place = lookup (is_at (nat_cmp place)) s.view_of.entries

-- how many captures that the view at this index follows have records left
abbrev pub open_at : Seating → ℕ → Option ℕ
open_at s view = option_map (λ f. f.open) (slice_get s.views.items view)

-- none of them has
abbrev pub IsFree : Seating → ℕ → Type 0
IsFree s view = open_at s view ≡ Some 0
