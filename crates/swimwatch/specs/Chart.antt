-- Where times are in a picture.
use Rattle.std.specs.Prelude.{ℕ, ◌-◌, ◌*◌, ◌/◌, min}

-- How many of 1,000 pixels right of the first moment a time is drawn: in proportion, with any time
-- after the last moment at the last moment. If the first moment is the last, all are at 0.
abbrev pub place_of : ℕ → ℕ → ℕ → ℕ
place_of first last time = (min time last - first) * 1000 / (last - first)
