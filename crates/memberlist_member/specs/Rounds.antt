-- In which order members are probed.
use Rattle.std.specs.Prelude.{ℕ, List}
use Rattle.std.specs.List.{filter}
use Rattle.std.specs.Option.{is_some}
use Rattle.memberlist_view.specs.Told.{ViewValue, entry_of}

-- resetNodes: the names that the view shows
abbrev pub shown_of : ViewValue → List (List ℕ) → List (List ℕ)
shown_of view names = filter (λ name. is_some (entry_of view name)) names
