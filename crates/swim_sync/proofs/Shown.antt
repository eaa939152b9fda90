-- What a table shows was claimed.
use Rattle.std.proofs.Common.{◌≡◌, Some, List, Contains, subst}
use Rattle.swim_claim.specs.declared.claim.Claim.{Claim}
use Rattle.swim_claim.specs.Claim.{name_of}
use Rattle.swim_table.specs.Standing.{Standing}
use Rattle.swim_table.specs.Table.{Entries, EntryOf, IsStandingOf, TableOf}
use Rattle.swim_table.proofs.Lookups.{get_contained}
use Rattle.swim_table.proofs.Showing.{home_is_newest}

-- each top was
pub top_made : (table : Entries) (claims : List Claim) → TableOf table claims → (s : Standing) → Contains table s → Contains claims s.top
top_made table claims h s at =
    let says : IsStandingOf claims (name_of s.top) s = subst (EntryOf claims (name_of s.top))
    (get_contained table s h.ascending at) (h.each (name_of s.top)) in
    says.top.made

-- and each home
pub home_made : (table : Entries) (claims : List Claim) → TableOf table claims → (s : Standing) (a : Claim) → Contains table s
    → s.home ≡ Some a → Contains claims a
home_made table claims h s a at is = (home_is_newest table claims h s a at is).made
