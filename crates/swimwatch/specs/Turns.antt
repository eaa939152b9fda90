-- In which order the records of several captures are taken in.
use Rattle.std.specs.Prelude.{◌≡◌, ◌⊎◌, ◌<◌, ◌≤◌, List, Contains}
use Rattle.swimwatch.specs.declared.input.turns.Turn.{Turn}

-- a record was captured before another one, or at the same time in a capture that was named before
abbrev pub IsNotAfter : Turn → Turn → Type 0
IsNotAfter a b = (a.time < b.time) ⊎ ((a.time ≡ b.time) × (a.place ≤ b.place))

-- the first of these turns
abbrev pub IsFirst : List Turn → Turn → Type 0
IsFirst turns turn = Contains turns turn
    × ((other : Turn) → Contains turns other → IsNotAfter turn other)
