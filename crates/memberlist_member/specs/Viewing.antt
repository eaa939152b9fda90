-- What a member's view is.
use Rattle.std.specs.Prelude.{ℕ, ◌≤◌, List}
use Rattle.std.specs.List.{All}
use Rattle.memberlist_view.specs.declared.heard.Heard.{Heard}
use Rattle.memberlist_view.specs.Told.{IsViewOf, ViewValue}

-- it is the view of these things by memberlist's rules, and none was heard later than now
abbrev pub IsViewOfPast : ViewValue → ℕ → List Heard → Type 0
IsViewOfPast view now past = IsViewOf view past × All (λ h. h.time ≤ now) past

-- there are such things
abbrev pub IsViewUntil : ViewValue → ℕ → Type 0
IsViewUntil view now = ∥ ((past : List Heard) × IsViewOfPast view now past) ∥₁
