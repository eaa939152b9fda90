-- Nodes of new members, and why none was made.
use Rattle.std.specs.Prelude.{◌≡◌, ℕ, ◌<◌, ◌≤◌, List, [], ◌∷◌, length, Option, Some, None, ⊤}
use Rattle.swim_claim.specs.declared.claim.Claim.TheVariants.{Alive}
use Rattle.swim_claim.specs.declared.fault.ClaimFault.TheVariants.{NameEmpty, NameTooLong, BadAddress, MetaTooLong, BadVersions}
use Rattle.swim_claim.specs.Details.{DetailsValue, IsAddress, IsVersions}
use Rattle.swim_claim.specs.Fault.{claim_number}
use Rattle.swim_claim.specs.Limits.{max_meta_len, max_name_len}
use Rattle.swim_claim.specs.Name.{IsLegalName}
use Rattle.swim_table.specs.Node.{NodeValue}
use Rattle.swim_table.specs.Table.{TableOf}
use Rattle.swim_c.specs.declared.opening.OpenFault.{OpenFault}
use Rattle.swim_c.specs.declared.opening.OpenFault.TheVariants.{Claim, Memory}
use Rattle.swim_c.specs.Statuses as statuses

-- the status that says why no node was made
abbrev pub open_number : OpenFault → ℕ
open_number (Claim fault) = claim_number fault
open_number Memory = 10

-- what a member says about itself, except its name
abbrev pub told : List ℕ → ℕ → List ℕ → List ℕ → DetailsValue
told addr port meta vsn = record { addr = addr; port = port; meta = meta; vsn = vsn }

-- the node of a member with this name and these details, which knows nothing but its Alive at this
-- incarnation
pub record IsNewMember (name : List ℕ) (details : DetailsValue) (inc : ℕ)
    (node : NodeValue) : Type 0 where
  pub name_is : node.name ≡ name
  pub details_is : node.details ≡ details
  pub start : TableOf node.table (Alive name inc details ∷ [])

-- The first check that fails: the name, the address, the metadata, the versions. Memory may be
-- refused at any time.
abbrev pub IsUnopened : List ℕ → DetailsValue → OpenFault → Type 0
IsUnopened name details (Claim NameEmpty) = name ≡ []
IsUnopened name details (Claim NameTooLong) = max_name_len < length name
IsUnopened name details (Claim BadAddress) = IsLegalName name × (¬ IsAddress details.addr)
IsUnopened name details (Claim MetaTooLong) = IsLegalName name × IsAddress details.addr
    × (max_meta_len < length details.meta)
IsUnopened name details (Claim BadVersions) =
    IsLegalName name × IsAddress details.addr × (length details.meta ≤ max_meta_len)
    × (¬ IsVersions details.vsn)
IsUnopened name details Memory = ⊤

-- the status of the first check that fails, or that memory was refused
abbrev pub IsUnmade : List ℕ → DetailsValue → ℕ → Type 0
IsUnmade name details status = (fault : OpenFault) × (status ≡ open_number fault)
    × IsUnopened name details fault

-- A handle with a node keeps it (65). An empty one gets such a node (0), or stays empty, and the
-- status says why.
abbrev pub OpenDone : List ℕ → DetailsValue → ℕ → Option NodeValue → Option NodeValue → ℕ → Type 0
OpenDone name details inc (Some before) new status =
    (status ≡ statuses.node_there) × (new ≡ Some before)
OpenDone name details inc None (Some after) status =
    (status ≡ 0) × IsNewMember name details inc after
OpenDone name details inc None None status = IsUnmade name details status
