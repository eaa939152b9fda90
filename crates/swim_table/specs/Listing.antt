-- A table as text, with a line for each name.
use Rattle.std.specs.Prelude.{ℕ, Option, Some, None, List, ◌++◌, codes, decimal}
use Rattle.std.specs.List.{flat_map}
use Rattle.hex.specs.Hex.{encode_lower}
use Rattle.percent_encoding.specs.Percent.{percent_encode}
use Rattle.swim_claim.specs.declared.claim.Claim.{Claim}
use Rattle.swim_claim.specs.declared.claim.Claim.TheVariants.{Alive, Suspect, Confirm, Leave}
use Rattle.swim_claim.specs.declared.claim.Kind.{Kind}
use Rattle.swim_claim.specs.declared.claim.Kind.TheVariants as kind
use Rattle.swim_claim.specs.Claim.{name_of, inc_of, kind_of}
use Rattle.swim_claim.specs.Details.{DetailsValue}
use Rattle.swim_table.specs.declared.listing.TheConstants.{ESCAPED}
use Rattle.swim_table.specs.Standing.{Standing}
use Rattle.swim_table.specs.Table.{Entries}

-- the word for a kind of claim
abbrev pub state_word : Kind → List ℕ
state_word kind.Alive = codes "alive"
state_word kind.Suspect = codes "suspect"
state_word kind.Confirm = codes "confirm"
state_word kind.Leave = codes "leave"

-- inc/addr/port/meta/vsn
abbrev pub address_text : ℕ → DetailsValue → List ℕ
address_text inc details =
    decimal inc ++ codes "/" ++ encode_lower details.addr ++ codes "/" ++ decimal details.port
    ++ codes "/" ++ encode_lower details.meta ++ codes "/" ++ encode_lower details.vsn

-- what the newest Alive said; no other claim is a home
abbrev pub home_text : Option Claim → List ℕ
home_text None = codes "-"
home_text (Some (Alive name inc details)) = address_text inc details
home_text (Some (Suspect name inc)) = codes "-"
home_text (Some (Confirm name inc)) = codes "-"
home_text (Some (Leave name inc)) = codes "-"

-- name state inc home
abbrev pub line : Standing → List ℕ
line entry =
    percent_encode ESCAPED (name_of entry.top) ++ codes " " ++ state_word (kind_of entry.top)
    ++ codes " " ++ decimal (inc_of entry.top) ++ codes " " ++ home_text entry.home ++ codes "\n"

-- the line of each name in ascending order
abbrev pub listing : Entries → List ℕ
listing table = flat_map line table
