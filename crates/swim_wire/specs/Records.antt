-- State records from the facts about a member.
use Rattle.std.specs.Prelude.{ℕ, ◌≤◌, List, length}
use Rattle.std.specs.Option.{option_copied, unwrap_or}
use Rattle.swim_claim.specs.declared.claim.Facts.{Facts}
use Rattle.swim_claim.specs.Details.{DetailsValue}
use Rattle.swim_claim.specs.Limits.{max_name_len, max_meta_len}
use Rattle.swim_wire.specs.declared.canonical.records.Record.{Record}
use Rattle.swim_wire.specs.Canonical.{record_bytes}
use Rattle.swim_wire.specs.Pairs.{state_number, details_or_none}

-- the state record of the facts about the member with this name
abbrev pub facts_bytes : List ℕ → Facts → List ℕ
facts_bytes name facts =
    record_bytes name facts.inc (state_number facts.kind)
    (details_or_none (option_copied facts.details))

-- the same, with these details if the facts have none
abbrev pub facts_bytes_with : DetailsValue → List ℕ → Facts → List ℕ
facts_bytes_with details name facts =
    record_bytes name facts.inc (state_number facts.kind)
    (unwrap_or (option_copied facts.details) details)

-- the bytes of a record that the code writes
abbrev pub bytes_of : Record → List ℕ
bytes_of r =
    record_bytes r.name.now r.inc r.state
    (record { addr = r.addr.now; port = r.port; meta = r.meta.now; vsn = r.vsn.now })

-- its parts are within the limits of names and details
pub record IsShortRecord (r : Record) : Type 0 where
  pub name : length r.name.now ≤ max_name_len
  pub addr : length r.addr.now ≤ 16
  pub meta : length r.meta.now ≤ max_meta_len
  pub vsn : length r.vsn.now ≤ 6
