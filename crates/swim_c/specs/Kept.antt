-- What a handle of kept bytes owns.
use base.Fml.{Fml}
use base.Stored.{Coded}
use denote.RawPtr.{Ptr}
use Rattle.std.specs.Prelude.{Bool, Option}
use Rattle.std.specs.Coded.{coded_option}
use Rattle.swim_c.specs.contracts.kept.Kept.{the_row}
use Rattle.swim_c.specs.Handle.{holds}

-- how proofs distinguish kept bytes from others, and from none
abbrev pub kept_coded : Coded (Option the_row.Denot)
kept_coded = coded_option the_row.coded

-- kept bytes and the right to free their block, if the handle has some
abbrev pub kept_owns : Ptr → Bool → Option the_row.Denot → Fml
kept_owns = holds the_row
