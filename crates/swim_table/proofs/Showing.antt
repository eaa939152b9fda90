-- What a table shows of the claims of which it is a table.
use Rattle.std.proofs.Common.{◌≡◌, ◌↔◌, Option, Some, None, List, ◌++◌, Contains, IsSome, refl, subst}
use Rattle.swim_claim.specs.declared.claim.Claim.{Claim}
use Rattle.swim_claim.specs.Claim.{name_of, Overrides}
use Rattle.swim_table.specs.Standing.{Standing}
use Rattle.swim_table.specs.Table.{Entries, get, IsHomeOf, IsStandingOf, EntryOf, TableOf, Home, Reduced}
use Rattle.swim_table.specs.Join.{Join, Below}
use Rattle.swim_table.proofs.Lookups.{get_contained}
use Rattle.swim_table.proofs.Tables.{TableOf-table_of, TableOf-unique, TableOf-same, TableOf-instead, Same-append_comm}

-- a table has each name about which there is a claim
pub name_shown : (table : Entries) (claims : List Claim) → TableOf table claims → (c : Claim)
    → Contains claims c → IsSome (get table (name_of c))
name_shown table claims h c made = by_answer (get table (name_of c)) (h.each (name_of c))
  where
    by_answer : (o : Option Standing) → EntryOf claims (name_of c) o → IsSome o
    by_answer None says = absurd (says c made refl)
    by_answer (Some s) says = refl

entry_says : (table : Entries) (claims : List Claim) → TableOf table claims → (s : Standing)
    → Contains table s → IsStandingOf claims (name_of s.top) s
entry_says table claims h s at = rw (get_contained table s h.ascending at) at (h.each (name_of s.top))

pub top_stands : (table : Entries) (claims : List Claim) → TableOf table claims → (s : Standing) → Contains table s →
    (c : Claim) → Contains claims c → name_of c ≡ name_of s.top → ¬ Overrides c s.top
top_stands table claims h s at c made about = (entry_says table claims h s at).top.greatest c made about

pub home_is_newest : (table : Entries) (claims : List Claim) → TableOf table claims → (s : Standing) (a : Claim)
    → Contains table s → s.home ≡ Some a → Home a claims
home_is_newest table claims h s a at is = (subst (IsHomeOf claims (name_of s.top)) is (entry_says table claims h s at).home).1

-- ---- the claims of a table after others

turned : (whole : Entries) (claims others : List Claim) → TableOf whole (claims ++ others) → TableOf whole (others ++ claims)
turned whole claims others = TableOf-same whole (claims ++ others) (others ++ claims) (Same-append_comm claims others)

pub TableOf-sent : (table whole : Entries) (claims others more : List Claim) → TableOf table claims → TableOf table others
    → TableOf whole (more ++ claims) → TableOf whole (more ++ others)
TableOf-sent table whole claims others more h g w = turned whole others more
    (TableOf-instead table whole claims others more h g (turned whole more claims w))

-- ---- tables below one another

pub below_join : (table other : Entries) → Below table other ↔ (Join table other ≡ other)
below_join table other = (
  λ below.
      TableOf-unique (Join table other) other (Reduced table ++ Reduced other) (Reduced other ++ Reduced table)
      (TableOf-table_of (Reduced table ++ Reduced other)) below (Same-append_comm (Reduced table) (Reduced other)),
  λ is.
      turned other (Reduced table) (Reduced other)
      (subst (λ t. TableOf t (Reduced table ++ Reduced other)) is (TableOf-table_of (Reduced table ++ Reduced other))),
)

pub below_both : (table other : Entries) → Below table other → Below other table → table ≡ other
below_both table other below above =
    TableOf-unique table other (Reduced table ++ Reduced other) (Reduced other ++ Reduced table) above below
    (Same-append_comm (Reduced table) (Reduced other))
